-- Worked examples: version 2. Written by tools/gen/rows.py from jobs/golden/version_2.
use Rattle.std.specs.Prelude.{Ok, codes}
use Rattle.model_rows.specs.Rows.{Row}

abbrev pub cancels_of_classes : Row
cancels_of_classes = record { file = codes "mesh 2\npages 16\nhistory 64\nworkers 1\nworker 0\nnew 0 2048 0\nnew 1 2048 0\nnew 2 2048 0\nnew 3 2048 0\nfree 0\nfree 3\nnew 4 1024 0\nnew 5 1024 0\nnew 6 1024 0\nnew 7 1024 0\nnew 8 1024 0\nnew 9 1024 0\nnew 10 1024 0\nnew 11 1024 0\nfree 4\nfree 9\nfree 10\nfree 11\nplan\nrun 0\nrun 0\nrun 0\nrun 0\nrun 0\nrun 0\nrun 0\nrun 0\nrun 0\nrun 0\nrun 0\nrun 0\nrun 0\nrun 0\nrun 0\nrun 0\nrun 0\nrun 0\nbegin 3 2\nbegin 1 0\nstep 1024\nstep 2048\nstep 2048\ncancel 1024\ncancel 2048\nstep 1024\nstep 2048\ncancel 1024\nstep 16\nbegin 3 2\nstep 1024\nstep 1024\nstep 1024\nstep 1024\nstep 1024\nstep 1024\ncancel 1024\nstep 1024\nstep 1024\nstep 1024\nreport\nend\n"; answer = Ok (codes "object 0 at 1000\nobject 1 at 1800\nobject 2 at 2000\nobject 3 at 2800\ndone\ndone\nobject 4 at 3000\nobject 5 at 3400\nobject 6 at 3800\nobject 7 at 3c00\nobject 8 at 4000\nobject 9 at 4400\nobject 10 at 4800\nobject 11 at 4c00\ndone\ndone\ndone\ndone\nleft 8\nleft 6\nprotect left 7\nprotect left 5\ncopy left 4\nleft 1\nleft 1\nunprotect left 0\nunprotect left 0\nrefused 15 NO_MESH\nrefused 15 NO_MESH\nleft 8\nprotect left 7\ncopy left 6\ncopy left 5\ncopy left 4\ncopy left 3\nremap left 2\nrefused 16 TOO_LATE\nunprotect left 1\nrelease left 0\nrefused 15 NO_MESH\nreport objects 6 bytes 8192 mapped 4 taken 3 saved 1\n") }

abbrev pub copies : Row
copies = record { file = codes "mesh 2\npages 16\nhistory 64\nworkers 1\nworker 0\nnew 0 2048 0\nput 0 0 0102030405\ncopy 0 2 0 0 3\nget 0 0 6\ncopy 0 2040 0 0 9\ncopy 0 0 1 0 1\nfree 0\ncopy 0 0 1 0 1\ncopy 0 0 0 0 1\nplan\nrun 0\nrun 0\nrun 0\nrun 0\nrun 0\nrun 0\nrun 0\nrun 0\nrun 0\nend\n"; answer = Ok (codes "object 0 at 1000\ndone\ndone\nbytes 010201020300\nrefused 7 OUTSIDE\nrefused 5 EMPTY\ndone\nrefused 5 EMPTY\nrefused 6 FREED\n") }

abbrev pub copies_across_pages_while_meshing : Row
copies_across_pages_while_meshing = record { file = codes "mesh 2\npages 16\nhistory 64\nworkers 5\nworker 0\nnew 0 1500 0\nnew 1 1500 0\nnew 2 1500 0\nnew 3 1500 0\nnew 4 1500 0\nnew 5 1500 0\nnew 6 1500 0\nnew 7 1500 0\nnew 8 1500 0\nnew 9 1500 0\nnew 10 1500 0\nput 10 1020 0102030405060708\nfree 2\nfree 8\nfree 9\nworker 1\ncopy 10 1016 0 0 8\nworker 2\ncopy 10 1017 0 0 8\nworker 3\ncopy 10 1024 0 0 8\nworker 4\ncopy 0 0 10 1016 8\nget 0 0 8\nplan\nrun 0\nrun 0\nrun 0\nrun 0\nrun 0\nrun 0\nrun 0\nrun 0\nrun 0\nrun 0\nrun 0\nrun 0\nrun 0\nrun 0\nrun 0\nbegin 1 0\nstep 1536\nrun 1\nrun 2\nrun 3\nstep 1536\nrun 4\nrun 4\nend\n"; answer = Ok (codes "object 0 at 1000\nobject 1 at 1600\nobject 2 at 1c00\nobject 3 at 2200\nobject 4 at 2800\nobject 5 at 2e00\nobject 6 at 3400\nobject 7 at 3a00\nobject 8 at 4000\nobject 9 at 4600\nobject 10 at 4c00\ndone\ndone\ndone\ndone\nleft 20\nprotect left 19\nblocked\nblocked\ndone\nprotect left 18\ndone\nbytes 0000000001020304\n") }

abbrev pub copies_and_the_history : Row
copies_and_the_history = record { file = codes "mesh 2\npages 16\nhistory 7\nworkers 2\nworker 0\nnew 0 2048 0\nnew 1 2048 0\nnew 2 2048 0\nnew 3 2048 0\nfree 0\nfree 3\ncopy 1 0 9 0 1\nworker 1\ncopy 2 0 1 0 1\nplan\nrun 0\nrun 0\nrun 0\nrun 0\nrun 0\nrun 0\nbegin 1 0\nstep 2048\nrun 1\nrun 1\nrun 0\nrun 1\nrun 0\nend\n"; answer = Ok (codes "object 0 at 1000\nobject 1 at 1800\nobject 2 at 2000\nobject 3 at 2800\ndone\ndone\nleft 6\nprotect left 5\nblocked\nblocked\nrefused 5 EMPTY\nhistory full\nover\n") }

abbrev pub copies_while_meshing : Row
copies_while_meshing = record { file = codes "mesh 2\npages 16\nhistory 64\nworkers 1\nworker 0\nnew 0 2048 0\nnew 1 2048 0\nnew 2 2048 0\nnew 3 2048 0\nfree 0\nfree 3\nput 2 0 ab\ncopy 1 0 2 0 1\nget 1 0 1\ncopy 2 0 1 0 1\nplan\nrun 0\nrun 0\nrun 0\nrun 0\nrun 0\nrun 0\nrun 0\nbegin 1 0\nstep 1024\nstep 2048\nrun 0\nrun 0\nrun 0\nend\n"; answer = Ok (codes "object 0 at 1000\nobject 1 at 1800\nobject 2 at 2000\nobject 3 at 2800\ndone\ndone\ndone\nleft 6\nrefused 15 NO_MESH\nprotect left 5\ndone\nbytes ab\nblocked\n") }

abbrev pub copies_within_an_object : Row
copies_within_an_object = record { file = codes "mesh 2\npages 16\nhistory 64\nworkers 1\nworker 0\nnew 0 64 0\nput 0 0 000102030405060708090a0b0c0d0e0f101112131415161718191a1b1c1d1e1f\ncopy 0 1 0 0 32\nget 0 1 32\ncopy 0 0 0 2 31\nget 0 0 32\ncopy 0 32 0 0 32\nget 0 32 32\ncopy 0 3 0 3 8\nget 0 0 16\nplan\nrun 0\nrun 0\nrun 0\nrun 0\nrun 0\nrun 0\nrun 0\nrun 0\nrun 0\nrun 0\nend\n"; answer = Ok (codes "object 0 at 1000\ndone\ndone\nbytes 000102030405060708090a0b0c0d0e0f101112131415161718191a1b1c1d1e1f\ndone\nbytes 0102030405060708090a0b0c0d0e0f101112131415161718191a1b1c1d1e1f1e\ndone\nbytes 0102030405060708090a0b0c0d0e0f101112131415161718191a1b1c1d1e1f1e\ndone\nbytes 0102030405060708090a0b0c0d0e0f10\n") }

abbrev pub copy_refusals_in_their_order : Row
copy_refusals_in_their_order = record { file = codes "mesh 2\npages 16\nhistory 64\nworkers 1\nworker 0\nnew 0 64 0\nnew 1 64 0\nfree 1\ncopy 1 0 9 0 1\ncopy 9 0 1 0 1\ncopy 1 0 0 60 9\ncopy 0 60 1 0 9\ncopy 0 0 0 64 1\ncopy 0 64 0 0 1\ncopy 0 63 0 0 1\ncopy 0 65535 0 65535 32\nplan\nrun 0\nrun 0\nrun 0\nrun 0\nrun 0\nrun 0\nrun 0\nrun 0\nrun 0\nrun 0\nrun 0\nend\n"; answer = Ok (codes "object 0 at 1000\nobject 1 at 1040\ndone\nrefused 5 EMPTY\nrefused 5 EMPTY\nrefused 6 FREED\nrefused 6 FREED\nrefused 7 OUTSIDE\nrefused 7 OUTSIDE\ndone\nrefused 7 OUTSIDE\n") }

abbrev pub one_mesh_a_class : Row
one_mesh_a_class = record { file = codes "mesh 2\npages 16\nhistory 64\nworkers 2\nworker 0\nnew 0 2048 0\nnew 1 2048 0\nnew 2 2048 0\nnew 3 2048 0\nfree 0\nfree 3\nnew 4 1024 0\nnew 5 1024 0\nnew 6 1024 0\nnew 7 1024 0\nnew 8 1024 0\nnew 9 1024 0\nnew 10 1024 0\nnew 11 1024 0\nfree 4\nfree 9\nfree 10\nfree 11\nworker 1\nput 8 0 cd\nplan\nrun 0\nrun 0\nrun 0\nrun 0\nrun 0\nrun 0\nrun 0\nrun 0\nrun 0\nrun 0\nrun 0\nrun 0\nrun 0\nrun 0\nrun 0\nrun 0\nrun 0\nrun 0\nbegin 1 0\nbegin 3 2\nbegin 1 0\nbegin 1 2\nstep 2048\nstep 1024\nrun 1\ncancel 1024\nstep 1024\nstep 1024\nstep 2048\nstep 2048\nstep 2048\nstep 2048\nstep 2048\nreport\nend\n"; answer = Ok (codes "object 0 at 1000\nobject 1 at 1800\nobject 2 at 2000\nobject 3 at 2800\ndone\ndone\nobject 4 at 3000\nobject 5 at 3400\nobject 6 at 3800\nobject 7 at 3c00\nobject 8 at 4000\nobject 9 at 4400\nobject 10 at 4800\nobject 11 at 4c00\ndone\ndone\ndone\ndone\nleft 6\nleft 8\nrefused 12 BUSY\nrefused 11 CLASS\nprotect left 5\nprotect left 7\nblocked\nleft 1\nunprotect left 0\nrefused 15 NO_MESH\ncopy left 4\ncopy left 3\nremap left 2\nunprotect left 1\nrelease left 0\nreport objects 6 bytes 8192 mapped 4 taken 3 saved 1\n") }

abbrev pub version_1_beside_another_class : Row
version_1_beside_another_class = record { file = codes "mesh 1\npages 16\nhistory 64\nworkers 1\nworker 0\nnew 0 2048 0\nnew 1 2048 0\nnew 2 2048 0\nnew 3 2048 0\nfree 0\nfree 3\nnew 4 1024 0\nnew 5 1024 0\nnew 6 1024 0\nnew 7 1024 0\nnew 8 1024 0\nnew 9 1024 0\nnew 10 1024 0\nnew 11 1024 0\nfree 4\nfree 9\nfree 10\nfree 11\nplan\nrun 0\nrun 0\nrun 0\nrun 0\nrun 0\nrun 0\nrun 0\nrun 0\nrun 0\nrun 0\nrun 0\nrun 0\nrun 0\nrun 0\nrun 0\nrun 0\nrun 0\nrun 0\nbegin 1 0\nbegin 3 2\nwhole 3 2\nstep\ncancel\nstep\nstep\nwhole 3 2\nreport\nend\n"; answer = Ok (codes "object 0 at 1000\nobject 1 at 1800\nobject 2 at 2000\nobject 3 at 2800\ndone\ndone\nobject 4 at 3000\nobject 5 at 3400\nobject 6 at 3800\nobject 7 at 3c00\nobject 8 at 4000\nobject 9 at 4400\nobject 10 at 4800\nobject 11 at 4c00\ndone\ndone\ndone\ndone\nleft 6\nrefused 12 BUSY\nrefused 12 BUSY\nprotect left 5\nleft 1\nunprotect left 0\nrefused 15 NO_MESH\nmeshed 1\nreport objects 6 bytes 8192 mapped 4 taken 3 saved 1\n") }

abbrev pub whole_beside_another_class : Row
whole_beside_another_class = record { file = codes "mesh 2\npages 16\nhistory 64\nworkers 1\nworker 0\nnew 0 2048 0\nnew 1 2048 0\nnew 2 2048 0\nnew 3 2048 0\nfree 0\nfree 3\nnew 4 1024 0\nnew 5 1024 0\nnew 6 1024 0\nnew 7 1024 0\nnew 8 1024 0\nnew 9 1024 0\nnew 10 1024 0\nnew 11 1024 0\nnew 12 1024 0\nnew 13 1024 0\nnew 14 1024 0\nnew 15 1024 0\nfree 5\nfree 6\nfree 7\nfree 8\nfree 10\nfree 11\nfree 12\nfree 13\nfree 14\nfree 15\nplan\nrun 0\nrun 0\nrun 0\nrun 0\nrun 0\nrun 0\nrun 0\nrun 0\nrun 0\nrun 0\nrun 0\nrun 0\nrun 0\nrun 0\nrun 0\nrun 0\nrun 0\nrun 0\nrun 0\nrun 0\nrun 0\nrun 0\nrun 0\nrun 0\nrun 0\nrun 0\nrun 0\nrun 0\nbegin 1 0\nwhole 2 3\nstep 2048\nbegin 3 2\nwhole 3 2\nwhole 1 0\nsweep 4\nsweep 1\ncancel 512\ncancel 1024\nstep 1024\ncancel 2048\nstep 2048\nreport\nend\n"; answer = Ok (codes "object 0 at 1000\nobject 1 at 1800\nobject 2 at 2000\nobject 3 at 2800\ndone\ndone\nobject 4 at 3000\nobject 5 at 3400\nobject 6 at 3800\nobject 7 at 3c00\nobject 8 at 4000\nobject 9 at 4400\nobject 10 at 4800\nobject 11 at 4c00\nobject 12 at 5000\nobject 13 at 5400\nobject 14 at 5800\nobject 15 at 5c00\ndone\ndone\ndone\ndone\ndone\ndone\ndone\ndone\ndone\ndone\nleft 6\nmeshed 1\nprotect left 5\nrefused 9 NO_GROUP\nrefused 9 NO_GROUP\nrefused 12 BUSY\nswept 1\nrefused 12 BUSY\nrefused 15 NO_MESH\nrefused 15 NO_MESH\nrefused 15 NO_MESH\nleft 1\nunprotect left 0\nreport objects 4 bytes 6144 mapped 4 taken 3 saved 1\n") }

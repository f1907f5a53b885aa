-- Worked examples: small steps. Written by tools/gen/rows.py from jobs/golden/small_steps.
use Rattle.std.specs.Prelude.{Ok, codes}
use Rattle.model_rows.specs.Rows.{Row}

abbrev pub addresses_after_meshing : Row
addresses_after_meshing = record { file = codes "mesh 1\npages 16\nhistory 64\nworkers 1\nworker 0\nnew 0 2048 0\nnew 1 2048 0\nnew 2 2048 0\nnew 3 2048 0\nfree 0\nfree 3\nput 2 0 ab\nget 2 0 1\naddr 2\nget 2 0 1\naddr 2\nget 2 0 1\naddr 2\nget 2 0 1\naddr 2\nget 2 0 1\naddr 2\nget 2 0 1\naddr 2\npeek 1000\npeek 2800\npeek 2000\nplan\nrun 0\nrun 0\nrun 0\nrun 0\nrun 0\nrun 0\nrun 0\nbegin 1 0\nstep\nrun 0\nrun 0\nstep\nrun 0\nrun 0\nstep\nrun 0\nrun 0\nstep\nrun 0\nrun 0\nstep\nrun 0\nrun 0\nstep\nrun 0\nrun 0\nrun 0\nrun 0\nrun 0\nend\n"; answer = Ok (codes "object 0 at 1000\nobject 1 at 1800\nobject 2 at 2000\nobject 3 at 2800\ndone\ndone\ndone\nleft 6\nprotect left 5\nbytes ab\nat 2000\ncopy left 4\nbytes ab\nat 2000\ncopy left 3\nbytes ab\nat 2000\nremap left 2\nbytes ab\nat 2000\nunprotect left 1\nbytes ab\nat 2000\nrelease left 0\nbytes ab\nat 2000\nrefused 8 STRAY\nrefused 8 STRAY\nbyte ab\n") }

abbrev pub begin_refusals : Row
begin_refusals = record { file = codes "mesh 1\npages 16\nhistory 64\nworkers 1\nworker 0\nnew 0 2048 0\nnew 1 2048 0\nnew 2 2048 0\nnew 3 2048 0\nplan\nrun 0\nrun 0\nrun 0\nrun 0\nbegin 1 0\nbegin 1 1\nbegin 1 9\nend\n"; answer = Ok (codes "object 0 at 1000\nobject 1 at 1800\nobject 2 at 2000\nobject 3 at 2800\nrefused 13 OVERLAP\nrefused 10 SAME\nrefused 9 NO_GROUP\n") }

abbrev pub blocked_takes_no_room_in_history : Row
blocked_takes_no_room_in_history = record { file = codes "mesh 1\npages 16\nhistory 9\nworkers 4\nworker 0\nnew 0 2048 0\nnew 1 2048 0\nnew 2 2048 0\nnew 3 2048 0\nfree 0\nfree 3\nput 2 0 ab\nput 2 0 cd\nworker 1\nput 2 2048 cd\nworker 2\nget 2 0 1\nworker 3\nget 2 0 1\nplan\nrun 0\nrun 0\nrun 0\nrun 0\nrun 0\nrun 0\nrun 0\nbegin 1 0\nstep\nrun 0\nrun 0\nrun 1\nrun 0\nrun 2\nrun 0\nrun 3\ncancel\nstep\nrun 0\nend\n"; answer = Ok (codes "object 0 at 1000\nobject 1 at 1800\nobject 2 at 2000\nobject 3 at 2800\ndone\ndone\ndone\nleft 6\nprotect left 5\nblocked\nblocked\nrefused 7 OUTSIDE\nblocked\nbytes ab\nhistory full\nhistory full\nleft 1\nunprotect left 0\nhistory full\n") }

abbrev pub busy_before_overlap : Row
busy_before_overlap = record { file = codes "mesh 1\npages 16\nhistory 64\nworkers 1\nworker 0\nnew 0 2048 0\nnew 1 2048 0\nnew 2 2048 0\nnew 3 2048 0\nfree 0\nfree 3\nnew 4 2048 0\nnew 5 2048 0\nfree 5\nplan\nrun 0\nrun 0\nrun 0\nrun 0\nrun 0\nrun 0\nbegin 1 0\nrun 0\nrun 0\nrun 0\nbegin 2 1\nend\n"; answer = Ok (codes "object 0 at 1000\nobject 1 at 1800\nobject 2 at 2000\nobject 3 at 2800\ndone\ndone\nleft 6\nobject 4 at 3000\nobject 5 at 3800\ndone\nrefused 12 BUSY\n") }

abbrev pub free_while_meshing : Row
free_while_meshing = record { file = codes "mesh 1\npages 16\nhistory 64\nworkers 1\nworker 0\nnew 0 2048 0\nnew 1 2048 0\nnew 2 2048 0\nnew 3 2048 0\nfree 0\nfree 3\nfree 2\nplan\nrun 0\nrun 0\nrun 0\nrun 0\nrun 0\nrun 0\nbegin 1 0\nstep\nrun 0\nstep\nstep\nstep\nstep\nstep\nend\n"; answer = Ok (codes "object 0 at 1000\nobject 1 at 1800\nobject 2 at 2000\nobject 3 at 2800\ndone\ndone\nleft 6\nprotect left 5\ndone\ncopy left 4\ncopy left 3\nremap left 2\nunprotect left 1\nrelease left 0\n") }

abbrev pub members_in_their_order : Row
members_in_their_order = record { file = codes "mesh 1\npages 16\nhistory 64\nworkers 3\nworker 0\nnew 0 2048 0\nnew 1 2048 0\nnew 2 2048 0\nnew 3 2048 0\nnew 4 2048 0\nfree 1\nfree 2\nfree 4\nput 0 2047 aa\nput 3 2047 bb\npeek 1000\npeek 17ff\nget 3 0 2\nget 3 2047 1\nfree 0\nnew 0 2048 0\naddr 3\nworker 1\nput 0 0 a1\nworker 2\nput 3 0 b1\nput 3 1 b2\nplan\nrun 0\nrun 0\nrun 0\nrun 0\nrun 0\nrun 0\nrun 0\nrun 0\nrun 0\nrun 0\nwhole 1 0\nbegin 0 2\nstep\nrun 1\nrun 2\nstep\nrun 2\nstep\nstep\nstep\nrun 1\nrun 2\nstep\nrun 1\nrun 2\nstep\nrun 1\nrun 2\nstep\nrun 2\nstep\nrun 0\nrun 0\nrun 0\nrun 0\nreport\nrun 0\nrun 0\nrun 0\nsweep 0\nend\n"; answer = Ok (codes "object 0 at 1000\nobject 1 at 1800\nobject 2 at 2000\nobject 3 at 2800\nobject 4 at 3000\ndone\ndone\ndone\ndone\ndone\nmeshed 1\nleft 9\nprotect left 8\nblocked\ndone\nprotect left 7\nblocked\ncopy left 6\ncopy left 5\nremap left 4\nblocked\nblocked\nremap left 3\nblocked\nblocked\nunprotect left 2\ndone\nblocked\nunprotect left 1\ndone\nrelease left 0\nbyte a1\nbyte aa\nbytes b1b2\nbytes bb\nreport objects 2 bytes 4096 mapped 3 taken 1 saved 2\ndone\nobject 5 at 3000\nat 2800\nrefused 9 NO_GROUP\n") }

abbrev pub objects_across_pages : Row
objects_across_pages = record { file = codes "mesh 1\npages 16\nhistory 64\nworkers 1\nworker 0\nnew 0 1500 0\nnew 1 1500 0\nnew 2 1500 0\nnew 3 1500 0\nnew 4 1500 0\nnew 5 1500 0\nnew 6 1500 0\nnew 7 1500 0\nnew 8 1500 0\nnew 9 1500 0\nnew 10 1500 0\nput 10 1020 0102030405060708\nfree 2\nfree 8\nfree 9\nget 10 1020 8\npeek 4fff\npeek 5000\nput 10 0 ff\nplan\nrun 0\nrun 0\nrun 0\nrun 0\nrun 0\nrun 0\nrun 0\nrun 0\nrun 0\nrun 0\nrun 0\nrun 0\nrun 0\nrun 0\nrun 0\nbegin 1 0\nstep\nstep\nstep\nstep\nstep\nstep\nstep\nstep\nstep\nstep\nstep\nstep\nrun 0\nrun 0\nrun 0\nrun 0\nstep\nstep\nstep\nstep\nstep\nstep\nreport\nend\n"; answer = Ok (codes "object 0 at 1000\nobject 1 at 1600\nobject 2 at 1c00\nobject 3 at 2200\nobject 4 at 2800\nobject 5 at 2e00\nobject 6 at 3400\nobject 7 at 3a00\nobject 8 at 4000\nobject 9 at 4600\nobject 10 at 4c00\ndone\ndone\ndone\ndone\nleft 20\nprotect left 19\nprotect left 18\nprotect left 17\ncopy left 16\ncopy left 15\ncopy left 14\ncopy left 13\ncopy left 12\ncopy left 11\ncopy left 10\ncopy left 9\nremap left 8\nbytes 0102030405060708\nbyte 04\nbyte 05\nblocked\nremap left 7\nremap left 6\nunprotect left 5\nunprotect left 4\nunprotect left 3\nrelease left 2\nreport objects 8 bytes 12000 mapped 6 taken 5 saved 1\n") }

abbrev pub one_mesh_at_a_time : Row
one_mesh_at_a_time = record { file = codes "mesh 1\npages 16\nhistory 64\nworkers 1\nworker 0\nnew 0 2048 0\nnew 1 2048 0\nnew 2 2048 0\nnew 3 2048 0\nfree 0\nfree 3\nnew 5 2048 0\nplan\nrun 0\nrun 0\nrun 0\nrun 0\nrun 0\nrun 0\nbegin 1 0\nbegin 1 0\nbegin 1 1\nsweep 1\nrun 0\nend\n"; answer = Ok (codes "object 0 at 1000\nobject 1 at 1800\nobject 2 at 2000\nobject 3 at 2800\ndone\ndone\nleft 6\nrefused 12 BUSY\nrefused 10 SAME\nrefused 12 BUSY\nobject 4 at 3000\n") }

abbrev pub poke_while_meshing : Row
poke_while_meshing = record { file = codes "mesh 1\npages 16\nhistory 64\nworkers 1\nworker 0\nnew 0 2048 0\nnew 1 2048 0\nnew 2 2048 0\nnew 3 2048 0\nfree 0\nfree 3\npoke 2800 cd\npoke 1800 cd\npoke 2000 cd\nplan\nrun 0\nrun 0\nrun 0\nrun 0\nrun 0\nrun 0\nbegin 1 0\nstep\nrun 0\nrun 0\nrun 0\nend\n"; answer = Ok (codes "object 0 at 1000\nobject 1 at 1800\nobject 2 at 2000\nobject 3 at 2800\ndone\ndone\nleft 6\nprotect left 5\nrefused 8 STRAY\ndone\nblocked\n") }

abbrev pub reads_while_meshing : Row
reads_while_meshing = record { file = codes "mesh 1\npages 16\nhistory 64\nworkers 1\nworker 0\nnew 0 2048 0\nnew 1 2048 0\nnew 2 2048 0\nnew 3 2048 0\nfree 0\nfree 3\nput 2 0 ab\nget 2 0 1\naddr 2\nget 2 0 1\naddr 2\nget 2 0 1\naddr 2\nget 2 0 1\naddr 2\nget 2 0 1\naddr 2\nget 2 0 1\naddr 2\nplan\nrun 0\nrun 0\nrun 0\nrun 0\nrun 0\nrun 0\nrun 0\nbegin 1 0\nstep\nrun 0\nrun 0\nstep\nrun 0\nrun 0\nstep\nrun 0\nrun 0\nstep\nrun 0\nrun 0\nstep\nrun 0\nrun 0\nstep\nrun 0\nrun 0\nend\n"; answer = Ok (codes "object 0 at 1000\nobject 1 at 1800\nobject 2 at 2000\nobject 3 at 2800\ndone\ndone\ndone\nleft 6\nprotect left 5\nbytes ab\nat 2000\ncopy left 4\nbytes ab\nat 2000\ncopy left 3\nbytes ab\nat 2000\nremap left 2\nbytes ab\nat 2000\nunprotect left 1\nbytes ab\nat 2000\nrelease left 0\nbytes ab\nat 2000\n") }

abbrev pub refusals_in_their_order : Row
refusals_in_their_order = record { file = codes "mesh 1\npages 16\nhistory 64\nworkers 1\nworker 0\nnew 0 1024 0\nnew 1 1024 0\nnew 2 1024 0\nnew 3 1024 0\nnew 4 1024 0\nfree 0\nnew 5 2048 0\nnew 6 2048 0\nnew 7 2048 0\nfree 5\nplan\nrun 0\nrun 0\nrun 0\nrun 0\nrun 0\nrun 0\nrun 0\nrun 0\nrun 0\nrun 0\nbegin 9 9\nbegin 9 0\nbegin 2 9\nbegin 1 2\nwhole 3 0\nbegin 1 0\nbegin 9 0\nbegin 2 2\nbegin 1 2\nwhole 3 0\nbegin 3 2\nwhole 3 2\nsweep 3\nsweep 1\nsweep 9\ncancel\nsweep 1\nbegin 3 2\ncancel\nend\n"; answer = Ok (codes "object 0 at 1000\nobject 1 at 1400\nobject 2 at 1800\nobject 3 at 1c00\nobject 4 at 2000\ndone\nobject 5 at 3000\nobject 6 at 3800\nobject 7 at 4000\ndone\nrefused 9 NO_GROUP\nrefused 9 NO_GROUP\nrefused 9 NO_GROUP\nrefused 11 CLASS\nrefused 11 CLASS\nleft 8\nrefused 9 NO_GROUP\nrefused 10 SAME\nrefused 11 CLASS\nrefused 11 CLASS\nrefused 12 BUSY\nrefused 12 BUSY\nrefused 17 NOT_EMPTY\nrefused 12 BUSY\nrefused 9 NO_GROUP\nleft 0\nrefused 17 NOT_EMPTY\nleft 6\nleft 0\n") }

abbrev pub reuse_after_meshing : Row
reuse_after_meshing = record { file = codes "mesh 1\npages 16\nhistory 64\nworkers 1\nworker 0\nnew 0 2048 0\nnew 1 2048 0\nnew 2 2048 0\nnew 3 2048 0\nfree 0\nfree 3\nput 2 0 ab\nget 2 0 1\naddr 2\nget 2 0 1\naddr 2\nget 2 0 1\naddr 2\nget 2 0 1\naddr 2\nget 2 0 1\naddr 2\nget 2 0 1\naddr 2\npeek 1000\npeek 2800\npeek 2000\nfree 2\nnew 4 2048 0\nget 2 0 1\npeek 2000\nplan\nrun 0\nrun 0\nrun 0\nrun 0\nrun 0\nrun 0\nrun 0\nbegin 1 0\nstep\nrun 0\nrun 0\nstep\nrun 0\nrun 0\nstep\nrun 0\nrun 0\nstep\nrun 0\nrun 0\nstep\nrun 0\nrun 0\nstep\nrun 0\nrun 0\nrun 0\nrun 0\nrun 0\nrun 0\nrun 0\nrun 0\nrun 0\nend\n"; answer = Ok (codes "object 0 at 1000\nobject 1 at 1800\nobject 2 at 2000\nobject 3 at 2800\ndone\ndone\ndone\nleft 6\nprotect left 5\nbytes ab\nat 2000\ncopy left 4\nbytes ab\nat 2000\ncopy left 3\nbytes ab\nat 2000\nremap left 2\nbytes ab\nat 2000\nunprotect left 1\nbytes ab\nat 2000\nrelease left 0\nbytes ab\nat 2000\nrefused 8 STRAY\nrefused 8 STRAY\nbyte ab\ndone\nobject 4 at 1000\nrefused 6 FREED\nrefused 8 STRAY\n") }

abbrev pub slots_freed_while_meshing : Row
slots_freed_while_meshing = record { file = codes "mesh 1\npages 16\nhistory 64\nworkers 1\nworker 0\nnew 0 2048 0\nnew 1 2048 0\nnew 2 2048 0\nnew 3 2048 0\nfree 0\nfree 3\nfree 2\nfree 1\npeek 1800\nnew 4 2048 1\nnew 5 2048 0\nplan\nrun 0\nrun 0\nrun 0\nrun 0\nrun 0\nrun 0\nbegin 1 0\nstep\nrun 0\nstep\nstep\nstep\nrun 0\nrun 0\nstep\nstep\nreport\nrun 0\nrun 0\nsweep 0\nreport\nend\n"; answer = Ok (codes "object 0 at 1000\nobject 1 at 1800\nobject 2 at 2000\nobject 3 at 2800\ndone\ndone\nleft 6\nprotect left 5\ndone\ncopy left 4\ncopy left 3\nremap left 2\ndone\nrefused 8 STRAY\nunprotect left 1\nrelease left 0\nreport objects 0 bytes 0 mapped 2 taken 1 saved 1\nobject 4 at 1800\nobject 5 at 1000\nrefused 17 NOT_EMPTY\nreport objects 2 bytes 4096 mapped 2 taken 1 saved 1\n") }

abbrev pub source_of_two_members : Row
source_of_two_members = record { file = codes "mesh 1\npages 16\nhistory 64\nworkers 2\nworker 0\nnew 0 1024 0\nnew 1 1024 0\nnew 2 1024 0\nnew 3 1024 0\nnew 4 1024 0\nnew 5 1024 0\nnew 6 1024 0\nnew 7 1024 0\nnew 8 1024 0\nnew 9 1024 0\nnew 10 1024 0\nnew 11 1024 0\nnew 12 1024 0\nnew 13 1024 0\nnew 14 1024 0\nnew 15 1024 0\nfree 1\nfree 2\nfree 3\nfree 4\nfree 6\nfree 7\nfree 8\nfree 9\nfree 11\nfree 12\nfree 13\nfree 14\nput 10 0 aa\nworker 1\nput 15 0 bb\nplan\nrun 0\nrun 0\nrun 0\nrun 0\nrun 0\nrun 0\nrun 0\nrun 0\nrun 0\nrun 0\nrun 0\nrun 0\nrun 0\nrun 0\nrun 0\nrun 0\nrun 0\nrun 0\nrun 0\nrun 0\nrun 0\nrun 0\nrun 0\nrun 0\nrun 0\nrun 0\nrun 0\nrun 0\nwhole 1 0\nwhole 3 2\nbegin 2 0\nstep\nrun 0\nrun 1\nstep\nstep\nstep\nstep\nstep\nstep\nstep\nrun 0\nstep\nrun 0\nstep\nstep\nend\n"; answer = Ok (codes "object 0 at 1000\nobject 1 at 1400\nobject 2 at 1800\nobject 3 at 1c00\nobject 4 at 2000\nobject 5 at 2400\nobject 6 at 2800\nobject 7 at 2c00\nobject 8 at 3000\nobject 9 at 3400\nobject 10 at 3800\nobject 11 at 3c00\nobject 12 at 4000\nobject 13 at 4400\nobject 14 at 4800\nobject 15 at 4c00\ndone\ndone\ndone\ndone\ndone\ndone\ndone\ndone\ndone\ndone\ndone\ndone\nmeshed 1\nmeshed 1\nleft 11\nprotect left 10\nblocked\ndone\nprotect left 9\ncopy left 8\ncopy left 7\ncopy left 6\ncopy left 5\nremap left 4\nremap left 3\nblocked\nunprotect left 2\ndone\nunprotect left 1\nrelease left 0\n") }

abbrev pub store_across_pages_while_meshing : Row
store_across_pages_while_meshing = record { file = codes "mesh 1\npages 16\nhistory 64\nworkers 2\nworker 0\nnew 0 1500 0\nnew 1 1500 0\nnew 2 1500 0\nnew 3 1500 0\nnew 4 1500 0\nnew 5 1500 0\nnew 6 1500 0\nnew 7 1500 0\nnew 8 1500 2\nfree 2\nput 8 1020 0102030405060708\nworker 1\nget 8 1020 8\nput 8 1024 aa\nget 8 1020 8\nput 8 1023 bb\nget 8 1020 8\nget 8 1020 8\nplan\nrun 0\nrun 0\nrun 0\nrun 0\nrun 0\nrun 0\nrun 0\nrun 0\nrun 0\nrun 0\nbegin 1 0\nstep\nrun 0\nrun 1\nrun 1\nrun 1\nstep\ncancel\nstep\nrun 0\nrun 1\nrun 1\nstep\nrun 0\nrun 1\nend\n"; answer = Ok (codes "object 0 at 1000\nobject 1 at 1600\nobject 2 at 1c00\nobject 3 at 2200\nobject 4 at 2800\nobject 5 at 2e00\nobject 6 at 3400\nobject 7 at 3a00\nobject 8 at 4c00\ndone\nleft 20\nprotect left 19\nblocked\nbytes 0000000000000000\ndone\nbytes 00000000aa000000\nprotect left 18\nleft 2\nunprotect left 1\nblocked\ndone\nbytes 000000bbaa000000\nunprotect left 0\ndone\nbytes 0102030405060708\n") }

abbrev pub stores_while_meshing : Row
stores_while_meshing = record { file = codes "mesh 1\npages 16\nhistory 64\nworkers 2\nworker 0\nnew 0 2048 0\nnew 1 2048 0\nnew 2 2048 0\nnew 3 2048 0\nfree 0\nfree 3\nput 2 0 ab\nput 2 0 cd\nworker 1\nput 1 0 cd\nplan\nrun 0\nrun 0\nrun 0\nrun 0\nrun 0\nrun 0\nrun 0\nbegin 1 0\nstep\nrun 0\nrun 1\nstep\nstep\nstep\nrun 0\nstep\nrun 0\nend\n"; answer = Ok (codes "object 0 at 1000\nobject 1 at 1800\nobject 2 at 2000\nobject 3 at 2800\ndone\ndone\ndone\nleft 6\nprotect left 5\nblocked\ndone\ncopy left 4\ncopy left 3\nremap left 2\nblocked\nunprotect left 1\ndone\n") }

abbrev pub worked_mesh : Row
worked_mesh = record { file = codes "mesh 1\npages 16\nhistory 64\nworkers 1\nworker 0\nnew 0 2048 0\nnew 1 2048 0\nnew 2 2048 0\nnew 3 2048 0\nfree 0\nfree 3\nput 2 0 ab\nget 2 0 1\naddr 2\nget 2 0 1\naddr 2\nget 2 0 1\naddr 2\nget 2 0 1\naddr 2\nget 2 0 1\naddr 2\nget 2 0 1\naddr 2\nplan\nrun 0\nrun 0\nrun 0\nrun 0\nrun 0\nrun 0\nrun 0\nbegin 1 0\nstep\nrun 0\nrun 0\nstep\nrun 0\nrun 0\nstep\nrun 0\nrun 0\nstep\nrun 0\nrun 0\nstep\nrun 0\nrun 0\nstep\nrun 0\nrun 0\nend\n"; answer = Ok (codes "object 0 at 1000\nobject 1 at 1800\nobject 2 at 2000\nobject 3 at 2800\ndone\ndone\ndone\nleft 6\nprotect left 5\nbytes ab\nat 2000\ncopy left 4\nbytes ab\nat 2000\ncopy left 3\nbytes ab\nat 2000\nremap left 2\nbytes ab\nat 2000\nunprotect left 1\nbytes ab\nat 2000\nrelease left 0\nbytes ab\nat 2000\n") }

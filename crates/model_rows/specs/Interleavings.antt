-- Worked examples: interleavings. Written by tools/gen/rows.py from jobs/golden/interleavings.
use Rattle.std.specs.Prelude.{Ok, codes}
use Rattle.model_rows.specs.Rows.{Row}

abbrev pub begun : Row
begun = record { file = codes "mesh 2\npages 16\nhistory 64\nworkers 19\nworker 0\nnew 0 1500 0\nnew 1 1500 0\nnew 2 1500 0\nnew 3 1500 0\nnew 4 1500 0\nnew 5 1500 0\nnew 6 1500 0\nnew 7 1500 0\nnew 8 1500 0\nnew 9 1500 0\nnew 10 1500 0\nnew 11 1500 0\nnew 12 1500 0\nnew 13 1500 0\nnew 14 1500 0\nnew 15 1500 0\nnew 16 1500 0\nput 10 1020 0102030405060708\nfree 2\nfree 8\nfree 9\nfree 11\nfree 12\nfree 13\nfree 14\nfree 15\nfree 7\nworker 1\nput 10 0 a1\nworker 2\nput 10 1024 a2\nworker 3\nput 10 1020 0102030405060708\nworker 4\nput 0 0 b1\nworker 5\nput 16 0 c1\nworker 6\npoke 4c00 a3\nworker 7\npoke 5000 a4\nworker 8\npoke 1000 b2\nworker 9\npoke 7000 c2\nworker 10\ncopy 10 8 0 0 4\nworker 11\ncopy 10 1032 0 0 4\nworker 12\ncopy 0 8 10 0 4\nworker 13\ncopy 16 8 10 0 4\nworker 14\nget 10 0 1\nget 10 1024 1\nget 0 0 1\nget 16 0 1\nworker 15\npeek 4c00\npeek 5000\npeek 1000\npeek 7000\nworker 16\naddr 10\naddr 0\naddr 16\nalias 20 10\nalias 21 0\nalias 22 16\nworker 17\nnew 23 1500 0\nworker 18\nfree 10\nfree 0\nfree 16\nplan\nrun 0\nrun 0\nrun 0\nrun 0\nrun 0\nrun 0\nrun 0\nrun 0\nrun 0\nrun 0\nrun 0\nrun 0\nrun 0\nrun 0\nrun 0\nrun 0\nrun 0\nrun 0\nrun 0\nrun 0\nrun 0\nrun 0\nrun 0\nrun 0\nrun 0\nrun 0\nrun 0\nbegin 1 0\nbegin 1 2\nbegin 2 0\nwhole 2 0\nsweep 1\nsweep 0\nsweep 2\npair 1536 1\nreport\nrun 1\nrun 2\nrun 3\nrun 4\nrun 5\nrun 6\nrun 7\nrun 8\nrun 9\nrun 10\nrun 11\nrun 12\nrun 13\nrun 14\nrun 14\nrun 14\nrun 14\nrun 15\nrun 15\nrun 15\nrun 15\nrun 16\nrun 16\nrun 16\nrun 16\nrun 16\nrun 16\nrun 17\nrun 18\nrun 18\nrun 18\nreport\ncancel 1536\nstep 1536\nend\n"; answer = Ok (codes "object 0 at 1000\nobject 1 at 1600\nobject 2 at 1c00\nobject 3 at 2200\nobject 4 at 2800\nobject 5 at 2e00\nobject 6 at 3400\nobject 7 at 3a00\nobject 8 at 4000\nobject 9 at 4600\nobject 10 at 4c00\nobject 11 at 5200\nobject 12 at 5800\nobject 13 at 5e00\nobject 14 at 6400\nobject 15 at 6a00\nobject 16 at 7000\ndone\ndone\ndone\ndone\ndone\ndone\ndone\ndone\ndone\ndone\nleft 20\nrefused 12 BUSY\nrefused 12 BUSY\nrefused 12 BUSY\nrefused 12 BUSY\nrefused 12 BUSY\nrefused 17 NOT_EMPTY\nfound 0 probes 0\nreport objects 8 bytes 12000 mapped 9 taken 9 saved 0\ndone\ndone\ndone\ndone\ndone\ndone\ndone\ndone\ndone\ndone\ndone\ndone\ndone\nbytes a3\nbytes a4\nbytes b2\nbytes c2\nbyte a3\nbyte a4\nbyte b2\nbyte c2\nat 4c00\nat 1000\nat 7000\ndone\ndone\ndone\nobject 17 at 7600\ndone\ndone\ndone\nreport objects 6 bytes 9000 mapped 9 taken 9 saved 0\nleft 0\nrefused 15 NO_MESH\n") }

abbrev pub cancelled : Row
cancelled = record { file = codes "mesh 2\npages 16\nhistory 64\nworkers 19\nworker 0\nnew 0 1500 0\nnew 1 1500 0\nnew 2 1500 0\nnew 3 1500 0\nnew 4 1500 0\nnew 5 1500 0\nnew 6 1500 0\nnew 7 1500 0\nnew 8 1500 0\nnew 9 1500 0\nnew 10 1500 0\nnew 11 1500 0\nnew 12 1500 0\nnew 13 1500 0\nnew 14 1500 0\nnew 15 1500 0\nnew 16 1500 0\nput 10 1020 0102030405060708\nfree 2\nfree 8\nfree 9\nfree 11\nfree 12\nfree 13\nfree 14\nfree 15\nfree 7\nworker 1\nput 10 0 a1\nworker 2\nput 10 1024 a2\nworker 3\nput 10 1020 0102030405060708\nworker 4\nput 0 0 b1\nworker 5\nput 16 0 c1\nworker 6\npoke 4c00 a3\nworker 7\npoke 5000 a4\nworker 8\npoke 1000 b2\nworker 9\npoke 7000 c2\nworker 10\ncopy 10 8 0 0 4\nworker 11\ncopy 10 1032 0 0 4\nworker 12\ncopy 0 8 10 0 4\nworker 13\ncopy 16 8 10 0 4\nworker 14\nget 10 0 1\nget 10 1024 1\nget 0 0 1\nget 16 0 1\nworker 15\npeek 4c00\npeek 5000\npeek 1000\npeek 7000\nworker 16\naddr 10\naddr 0\naddr 16\nalias 20 10\nalias 21 0\nalias 22 16\nworker 17\nnew 23 1500 0\nworker 18\nfree 10\nfree 0\nfree 16\nplan\nrun 0\nrun 0\nrun 0\nrun 0\nrun 0\nrun 0\nrun 0\nrun 0\nrun 0\nrun 0\nrun 0\nrun 0\nrun 0\nrun 0\nrun 0\nrun 0\nrun 0\nrun 0\nrun 0\nrun 0\nrun 0\nrun 0\nrun 0\nrun 0\nrun 0\nrun 0\nrun 0\nbegin 1 0\nstep 1536\nstep 1536\nstep 1536\nstep 1536\nstep 1536\nstep 1536\nstep 1536\nstep 1536\nstep 1536\nstep 1536\nstep 1536\ncancel 1536\nbegin 1 2\nbegin 2 0\nwhole 2 0\nsweep 1\nsweep 0\nsweep 2\npair 1536 1\nreport\nrun 1\nrun 2\nrun 3\nrun 4\nrun 5\nrun 6\nrun 7\nrun 8\nrun 9\nrun 10\nrun 11\nrun 12\nrun 13\nrun 14\nrun 14\nrun 14\nrun 14\nrun 15\nrun 15\nrun 15\nrun 15\nrun 16\nrun 16\nrun 16\nrun 16\nrun 16\nrun 16\nrun 17\nrun 18\nrun 18\nrun 18\nreport\ncancel 1536\nstep 1536\nend\n"; answer = Ok (codes "object 0 at 1000\nobject 1 at 1600\nobject 2 at 1c00\nobject 3 at 2200\nobject 4 at 2800\nobject 5 at 2e00\nobject 6 at 3400\nobject 7 at 3a00\nobject 8 at 4000\nobject 9 at 4600\nobject 10 at 4c00\nobject 11 at 5200\nobject 12 at 5800\nobject 13 at 5e00\nobject 14 at 6400\nobject 15 at 6a00\nobject 16 at 7000\ndone\ndone\ndone\ndone\ndone\ndone\ndone\ndone\ndone\ndone\nleft 20\nprotect left 19\nprotect left 18\nprotect left 17\ncopy left 16\ncopy left 15\ncopy left 14\ncopy left 13\ncopy left 12\ncopy left 11\ncopy left 10\ncopy left 9\nleft 3\nrefused 12 BUSY\nrefused 12 BUSY\nrefused 12 BUSY\nrefused 12 BUSY\nrefused 12 BUSY\nrefused 17 NOT_EMPTY\nfound 0 probes 0\nreport objects 8 bytes 12000 mapped 9 taken 9 saved 0\nblocked\nblocked\nblocked\ndone\ndone\nblocked\nblocked\ndone\ndone\nblocked\nblocked\ndone\ndone\nbytes 00\nbytes 05\nbytes b2\nbytes c2\nbyte 00\nbyte 05\nbyte b2\nbyte c2\nat 4c00\nat 1000\nat 7000\ndone\ndone\ndone\nobject 17 at 7600\ndone\ndone\ndone\nreport objects 6 bytes 9000 mapped 9 taken 9 saved 0\nleft 3\nunprotect left 2\n") }

abbrev pub copied : Row
copied = record { file = codes "mesh 2\npages 16\nhistory 64\nworkers 19\nworker 0\nnew 0 1500 0\nnew 1 1500 0\nnew 2 1500 0\nnew 3 1500 0\nnew 4 1500 0\nnew 5 1500 0\nnew 6 1500 0\nnew 7 1500 0\nnew 8 1500 0\nnew 9 1500 0\nnew 10 1500 0\nnew 11 1500 0\nnew 12 1500 0\nnew 13 1500 0\nnew 14 1500 0\nnew 15 1500 0\nnew 16 1500 0\nput 10 1020 0102030405060708\nfree 2\nfree 8\nfree 9\nfree 11\nfree 12\nfree 13\nfree 14\nfree 15\nfree 7\nworker 1\nput 10 0 a1\nworker 2\nput 10 1024 a2\nworker 3\nput 10 1020 0102030405060708\nworker 4\nput 0 0 b1\nworker 5\nput 16 0 c1\nworker 6\npoke 4c00 a3\nworker 7\npoke 5000 a4\nworker 8\npoke 1000 b2\nworker 9\npoke 7000 c2\nworker 10\ncopy 10 8 0 0 4\nworker 11\ncopy 10 1032 0 0 4\nworker 12\ncopy 0 8 10 0 4\nworker 13\ncopy 16 8 10 0 4\nworker 14\nget 10 0 1\nget 10 1024 1\nget 0 0 1\nget 16 0 1\nworker 15\npeek 4c00\npeek 5000\npeek 1000\npeek 7000\nworker 16\naddr 10\naddr 0\naddr 16\nalias 20 10\nalias 21 0\nalias 22 16\nworker 17\nnew 23 1500 0\nworker 18\nfree 10\nfree 0\nfree 16\nplan\nrun 0\nrun 0\nrun 0\nrun 0\nrun 0\nrun 0\nrun 0\nrun 0\nrun 0\nrun 0\nrun 0\nrun 0\nrun 0\nrun 0\nrun 0\nrun 0\nrun 0\nrun 0\nrun 0\nrun 0\nrun 0\nrun 0\nrun 0\nrun 0\nrun 0\nrun 0\nrun 0\nbegin 1 0\nstep 1536\nstep 1536\nstep 1536\nstep 1536\nstep 1536\nstep 1536\nstep 1536\nstep 1536\nstep 1536\nstep 1536\nstep 1536\nbegin 1 2\nbegin 2 0\nwhole 2 0\nsweep 1\nsweep 0\nsweep 2\npair 1536 1\nreport\nrun 1\nrun 2\nrun 3\nrun 4\nrun 5\nrun 6\nrun 7\nrun 8\nrun 9\nrun 10\nrun 11\nrun 12\nrun 13\nrun 14\nrun 14\nrun 14\nrun 14\nrun 15\nrun 15\nrun 15\nrun 15\nrun 16\nrun 16\nrun 16\nrun 16\nrun 16\nrun 16\nrun 17\nrun 18\nrun 18\nrun 18\nreport\ncancel 1536\nstep 1536\nend\n"; answer = Ok (codes "object 0 at 1000\nobject 1 at 1600\nobject 2 at 1c00\nobject 3 at 2200\nobject 4 at 2800\nobject 5 at 2e00\nobject 6 at 3400\nobject 7 at 3a00\nobject 8 at 4000\nobject 9 at 4600\nobject 10 at 4c00\nobject 11 at 5200\nobject 12 at 5800\nobject 13 at 5e00\nobject 14 at 6400\nobject 15 at 6a00\nobject 16 at 7000\ndone\ndone\ndone\ndone\ndone\ndone\ndone\ndone\ndone\ndone\nleft 20\nprotect left 19\nprotect left 18\nprotect left 17\ncopy left 16\ncopy left 15\ncopy left 14\ncopy left 13\ncopy left 12\ncopy left 11\ncopy left 10\ncopy left 9\nrefused 12 BUSY\nrefused 12 BUSY\nrefused 12 BUSY\nrefused 12 BUSY\nrefused 12 BUSY\nrefused 17 NOT_EMPTY\nfound 0 probes 0\nreport objects 8 bytes 12000 mapped 9 taken 9 saved 0\nblocked\nblocked\nblocked\ndone\ndone\nblocked\nblocked\ndone\ndone\nblocked\nblocked\ndone\ndone\nbytes 00\nbytes 05\nbytes b2\nbytes c2\nbyte 00\nbyte 05\nbyte b2\nbyte c2\nat 4c00\nat 1000\nat 7000\ndone\ndone\ndone\nobject 17 at 7600\ndone\ndone\ndone\nreport objects 6 bytes 9000 mapped 9 taken 9 saved 0\nleft 3\nunprotect left 2\n") }

abbrev pub one_page_protected : Row
one_page_protected = record { file = codes "mesh 2\npages 16\nhistory 64\nworkers 19\nworker 0\nnew 0 1500 0\nnew 1 1500 0\nnew 2 1500 0\nnew 3 1500 0\nnew 4 1500 0\nnew 5 1500 0\nnew 6 1500 0\nnew 7 1500 0\nnew 8 1500 0\nnew 9 1500 0\nnew 10 1500 0\nnew 11 1500 0\nnew 12 1500 0\nnew 13 1500 0\nnew 14 1500 0\nnew 15 1500 0\nnew 16 1500 0\nput 10 1020 0102030405060708\nfree 2\nfree 8\nfree 9\nfree 11\nfree 12\nfree 13\nfree 14\nfree 15\nfree 7\nworker 1\nput 10 0 a1\nworker 2\nput 10 1024 a2\nworker 3\nput 10 1020 0102030405060708\nworker 4\nput 0 0 b1\nworker 5\nput 16 0 c1\nworker 6\npoke 4c00 a3\nworker 7\npoke 5000 a4\nworker 8\npoke 1000 b2\nworker 9\npoke 7000 c2\nworker 10\ncopy 10 8 0 0 4\nworker 11\ncopy 10 1032 0 0 4\nworker 12\ncopy 0 8 10 0 4\nworker 13\ncopy 16 8 10 0 4\nworker 14\nget 10 0 1\nget 10 1024 1\nget 0 0 1\nget 16 0 1\nworker 15\npeek 4c00\npeek 5000\npeek 1000\npeek 7000\nworker 16\naddr 10\naddr 0\naddr 16\nalias 20 10\nalias 21 0\nalias 22 16\nworker 17\nnew 23 1500 0\nworker 18\nfree 10\nfree 0\nfree 16\nplan\nrun 0\nrun 0\nrun 0\nrun 0\nrun 0\nrun 0\nrun 0\nrun 0\nrun 0\nrun 0\nrun 0\nrun 0\nrun 0\nrun 0\nrun 0\nrun 0\nrun 0\nrun 0\nrun 0\nrun 0\nrun 0\nrun 0\nrun 0\nrun 0\nrun 0\nrun 0\nrun 0\nbegin 1 0\nstep 1536\nbegin 1 2\nbegin 2 0\nwhole 2 0\nsweep 1\nsweep 0\nsweep 2\npair 1536 1\nreport\nrun 1\nrun 2\nrun 3\nrun 4\nrun 5\nrun 6\nrun 7\nrun 8\nrun 9\nrun 10\nrun 11\nrun 12\nrun 13\nrun 14\nrun 14\nrun 14\nrun 14\nrun 15\nrun 15\nrun 15\nrun 15\nrun 16\nrun 16\nrun 16\nrun 16\nrun 16\nrun 16\nrun 17\nrun 18\nrun 18\nrun 18\nreport\ncancel 1536\nstep 1536\nend\n"; answer = Ok (codes "object 0 at 1000\nobject 1 at 1600\nobject 2 at 1c00\nobject 3 at 2200\nobject 4 at 2800\nobject 5 at 2e00\nobject 6 at 3400\nobject 7 at 3a00\nobject 8 at 4000\nobject 9 at 4600\nobject 10 at 4c00\nobject 11 at 5200\nobject 12 at 5800\nobject 13 at 5e00\nobject 14 at 6400\nobject 15 at 6a00\nobject 16 at 7000\ndone\ndone\ndone\ndone\ndone\ndone\ndone\ndone\ndone\ndone\nleft 20\nprotect left 19\nrefused 12 BUSY\nrefused 12 BUSY\nrefused 12 BUSY\nrefused 12 BUSY\nrefused 12 BUSY\nrefused 17 NOT_EMPTY\nfound 0 probes 0\nreport objects 8 bytes 12000 mapped 9 taken 9 saved 0\nblocked\ndone\nblocked\ndone\ndone\nblocked\ndone\ndone\ndone\nblocked\ndone\ndone\ndone\nbytes 00\nbytes a4\nbytes b2\nbytes c2\nbyte 00\nbyte a4\nbyte b2\nbyte c2\nat 4c00\nat 1000\nat 7000\ndone\ndone\ndone\nobject 17 at 7600\ndone\ndone\ndone\nreport objects 6 bytes 9000 mapped 9 taken 9 saved 0\nleft 1\nunprotect left 0\n") }

abbrev pub one_page_released : Row
one_page_released = record { file = codes "mesh 2\npages 16\nhistory 64\nworkers 19\nworker 0\nnew 0 1500 0\nnew 1 1500 0\nnew 2 1500 0\nnew 3 1500 0\nnew 4 1500 0\nnew 5 1500 0\nnew 6 1500 0\nnew 7 1500 0\nnew 8 1500 0\nnew 9 1500 0\nnew 10 1500 0\nnew 11 1500 0\nnew 12 1500 0\nnew 13 1500 0\nnew 14 1500 0\nnew 15 1500 0\nnew 16 1500 0\nput 10 1020 0102030405060708\nfree 2\nfree 8\nfree 9\nfree 11\nfree 12\nfree 13\nfree 14\nfree 15\nfree 7\nworker 1\nput 10 0 a1\nworker 2\nput 10 1024 a2\nworker 3\nput 10 1020 0102030405060708\nworker 4\nput 0 0 b1\nworker 5\nput 16 0 c1\nworker 6\npoke 4c00 a3\nworker 7\npoke 5000 a4\nworker 8\npoke 1000 b2\nworker 9\npoke 7000 c2\nworker 10\ncopy 10 8 0 0 4\nworker 11\ncopy 10 1032 0 0 4\nworker 12\ncopy 0 8 10 0 4\nworker 13\ncopy 16 8 10 0 4\nworker 14\nget 10 0 1\nget 10 1024 1\nget 0 0 1\nget 16 0 1\nworker 15\npeek 4c00\npeek 5000\npeek 1000\npeek 7000\nworker 16\naddr 10\naddr 0\naddr 16\nalias 20 10\nalias 21 0\nalias 22 16\nworker 17\nnew 23 1500 0\nworker 18\nfree 10\nfree 0\nfree 16\nplan\nrun 0\nrun 0\nrun 0\nrun 0\nrun 0\nrun 0\nrun 0\nrun 0\nrun 0\nrun 0\nrun 0\nrun 0\nrun 0\nrun 0\nrun 0\nrun 0\nrun 0\nrun 0\nrun 0\nrun 0\nrun 0\nrun 0\nrun 0\nrun 0\nrun 0\nrun 0\nrun 0\nbegin 1 0\nstep 1536\nstep 1536\nstep 1536\nstep 1536\nstep 1536\nstep 1536\nstep 1536\nstep 1536\nstep 1536\nstep 1536\nstep 1536\nstep 1536\nstep 1536\nstep 1536\nstep 1536\nstep 1536\nstep 1536\nstep 1536\nbegin 1 2\nbegin 2 0\nwhole 2 0\nsweep 1\nsweep 0\nsweep 2\npair 1536 1\nreport\nrun 1\nrun 2\nrun 3\nrun 4\nrun 5\nrun 6\nrun 7\nrun 8\nrun 9\nrun 10\nrun 11\nrun 12\nrun 13\nrun 14\nrun 14\nrun 14\nrun 14\nrun 15\nrun 15\nrun 15\nrun 15\nrun 16\nrun 16\nrun 16\nrun 16\nrun 16\nrun 16\nrun 17\nrun 18\nrun 18\nrun 18\nreport\ncancel 1536\nstep 1536\nend\n"; answer = Ok (codes "object 0 at 1000\nobject 1 at 1600\nobject 2 at 1c00\nobject 3 at 2200\nobject 4 at 2800\nobject 5 at 2e00\nobject 6 at 3400\nobject 7 at 3a00\nobject 8 at 4000\nobject 9 at 4600\nobject 10 at 4c00\nobject 11 at 5200\nobject 12 at 5800\nobject 13 at 5e00\nobject 14 at 6400\nobject 15 at 6a00\nobject 16 at 7000\ndone\ndone\ndone\ndone\ndone\ndone\ndone\ndone\ndone\ndone\nleft 20\nprotect left 19\nprotect left 18\nprotect left 17\ncopy left 16\ncopy left 15\ncopy left 14\ncopy left 13\ncopy left 12\ncopy left 11\ncopy left 10\ncopy left 9\nremap left 8\nremap left 7\nremap left 6\nunprotect left 5\nunprotect left 4\nunprotect left 3\nrelease left 2\nrefused 12 BUSY\nrefused 12 BUSY\nrefused 12 BUSY\nrefused 12 BUSY\nrefused 12 BUSY\nrefused 17 NOT_EMPTY\nfound 0 probes 0\nreport objects 8 bytes 12000 mapped 9 taken 8 saved 1\ndone\ndone\ndone\ndone\ndone\ndone\ndone\ndone\ndone\ndone\ndone\ndone\ndone\nbytes a3\nbytes a4\nbytes b2\nbytes c2\nbyte a3\nbyte a4\nbyte b2\nbyte c2\nat 4c00\nat 1000\nat 7000\ndone\ndone\ndone\nobject 17 at 7600\ndone\ndone\ndone\nreport objects 6 bytes 9000 mapped 9 taken 8 saved 1\nrefused 16 TOO_LATE\nrelease left 1\n") }

abbrev pub one_page_remapped : Row
one_page_remapped = record { file = codes "mesh 2\npages 16\nhistory 64\nworkers 19\nworker 0\nnew 0 1500 0\nnew 1 1500 0\nnew 2 1500 0\nnew 3 1500 0\nnew 4 1500 0\nnew 5 1500 0\nnew 6 1500 0\nnew 7 1500 0\nnew 8 1500 0\nnew 9 1500 0\nnew 10 1500 0\nnew 11 1500 0\nnew 12 1500 0\nnew 13 1500 0\nnew 14 1500 0\nnew 15 1500 0\nnew 16 1500 0\nput 10 1020 0102030405060708\nfree 2\nfree 8\nfree 9\nfree 11\nfree 12\nfree 13\nfree 14\nfree 15\nfree 7\nworker 1\nput 10 0 a1\nworker 2\nput 10 1024 a2\nworker 3\nput 10 1020 0102030405060708\nworker 4\nput 0 0 b1\nworker 5\nput 16 0 c1\nworker 6\npoke 4c00 a3\nworker 7\npoke 5000 a4\nworker 8\npoke 1000 b2\nworker 9\npoke 7000 c2\nworker 10\ncopy 10 8 0 0 4\nworker 11\ncopy 10 1032 0 0 4\nworker 12\ncopy 0 8 10 0 4\nworker 13\ncopy 16 8 10 0 4\nworker 14\nget 10 0 1\nget 10 1024 1\nget 0 0 1\nget 16 0 1\nworker 15\npeek 4c00\npeek 5000\npeek 1000\npeek 7000\nworker 16\naddr 10\naddr 0\naddr 16\nalias 20 10\nalias 21 0\nalias 22 16\nworker 17\nnew 23 1500 0\nworker 18\nfree 10\nfree 0\nfree 16\nplan\nrun 0\nrun 0\nrun 0\nrun 0\nrun 0\nrun 0\nrun 0\nrun 0\nrun 0\nrun 0\nrun 0\nrun 0\nrun 0\nrun 0\nrun 0\nrun 0\nrun 0\nrun 0\nrun 0\nrun 0\nrun 0\nrun 0\nrun 0\nrun 0\nrun 0\nrun 0\nrun 0\nbegin 1 0\nstep 1536\nstep 1536\nstep 1536\nstep 1536\nstep 1536\nstep 1536\nstep 1536\nstep 1536\nstep 1536\nstep 1536\nstep 1536\nstep 1536\nbegin 1 2\nbegin 2 0\nwhole 2 0\nsweep 1\nsweep 0\nsweep 2\npair 1536 1\nreport\nrun 1\nrun 2\nrun 3\nrun 4\nrun 5\nrun 6\nrun 7\nrun 8\nrun 9\nrun 10\nrun 11\nrun 12\nrun 13\nrun 14\nrun 14\nrun 14\nrun 14\nrun 15\nrun 15\nrun 15\nrun 15\nrun 16\nrun 16\nrun 16\nrun 16\nrun 16\nrun 16\nrun 17\nrun 18\nrun 18\nrun 18\nreport\ncancel 1536\nstep 1536\nend\n"; answer = Ok (codes "object 0 at 1000\nobject 1 at 1600\nobject 2 at 1c00\nobject 3 at 2200\nobject 4 at 2800\nobject 5 at 2e00\nobject 6 at 3400\nobject 7 at 3a00\nobject 8 at 4000\nobject 9 at 4600\nobject 10 at 4c00\nobject 11 at 5200\nobject 12 at 5800\nobject 13 at 5e00\nobject 14 at 6400\nobject 15 at 6a00\nobject 16 at 7000\ndone\ndone\ndone\ndone\ndone\ndone\ndone\ndone\ndone\ndone\nleft 20\nprotect left 19\nprotect left 18\nprotect left 17\ncopy left 16\ncopy left 15\ncopy left 14\ncopy left 13\ncopy left 12\ncopy left 11\ncopy left 10\ncopy left 9\nremap left 8\nrefused 12 BUSY\nrefused 12 BUSY\nrefused 12 BUSY\nrefused 12 BUSY\nrefused 12 BUSY\nrefused 17 NOT_EMPTY\nfound 0 probes 0\nreport objects 8 bytes 12000 mapped 9 taken 9 saved 0\nblocked\nblocked\nblocked\ndone\ndone\nblocked\nblocked\ndone\ndone\nblocked\nblocked\ndone\ndone\nbytes 00\nbytes 05\nbytes b2\nbytes c2\nbyte 00\nbyte 05\nbyte b2\nbyte c2\nat 4c00\nat 1000\nat 7000\ndone\ndone\ndone\nobject 17 at 7600\ndone\ndone\ndone\nreport objects 6 bytes 9000 mapped 9 taken 9 saved 0\nrefused 16 TOO_LATE\nremap left 7\n") }

abbrev pub one_page_unwound : Row
one_page_unwound = record { file = codes "mesh 2\npages 16\nhistory 64\nworkers 19\nworker 0\nnew 0 1500 0\nnew 1 1500 0\nnew 2 1500 0\nnew 3 1500 0\nnew 4 1500 0\nnew 5 1500 0\nnew 6 1500 0\nnew 7 1500 0\nnew 8 1500 0\nnew 9 1500 0\nnew 10 1500 0\nnew 11 1500 0\nnew 12 1500 0\nnew 13 1500 0\nnew 14 1500 0\nnew 15 1500 0\nnew 16 1500 0\nput 10 1020 0102030405060708\nfree 2\nfree 8\nfree 9\nfree 11\nfree 12\nfree 13\nfree 14\nfree 15\nfree 7\nworker 1\nput 10 0 a1\nworker 2\nput 10 1024 a2\nworker 3\nput 10 1020 0102030405060708\nworker 4\nput 0 0 b1\nworker 5\nput 16 0 c1\nworker 6\npoke 4c00 a3\nworker 7\npoke 5000 a4\nworker 8\npoke 1000 b2\nworker 9\npoke 7000 c2\nworker 10\ncopy 10 8 0 0 4\nworker 11\ncopy 10 1032 0 0 4\nworker 12\ncopy 0 8 10 0 4\nworker 13\ncopy 16 8 10 0 4\nworker 14\nget 10 0 1\nget 10 1024 1\nget 0 0 1\nget 16 0 1\nworker 15\npeek 4c00\npeek 5000\npeek 1000\npeek 7000\nworker 16\naddr 10\naddr 0\naddr 16\nalias 20 10\nalias 21 0\nalias 22 16\nworker 17\nnew 23 1500 0\nworker 18\nfree 10\nfree 0\nfree 16\nplan\nrun 0\nrun 0\nrun 0\nrun 0\nrun 0\nrun 0\nrun 0\nrun 0\nrun 0\nrun 0\nrun 0\nrun 0\nrun 0\nrun 0\nrun 0\nrun 0\nrun 0\nrun 0\nrun 0\nrun 0\nrun 0\nrun 0\nrun 0\nrun 0\nrun 0\nrun 0\nrun 0\nbegin 1 0\nstep 1536\nstep 1536\nstep 1536\nstep 1536\nstep 1536\nstep 1536\nstep 1536\nstep 1536\nstep 1536\nstep 1536\nstep 1536\ncancel 1536\nstep 1536\nbegin 1 2\nbegin 2 0\nwhole 2 0\nsweep 1\nsweep 0\nsweep 2\npair 1536 1\nreport\nrun 1\nrun 2\nrun 3\nrun 4\nrun 5\nrun 6\nrun 7\nrun 8\nrun 9\nrun 10\nrun 11\nrun 12\nrun 13\nrun 14\nrun 14\nrun 14\nrun 14\nrun 15\nrun 15\nrun 15\nrun 15\nrun 16\nrun 16\nrun 16\nrun 16\nrun 16\nrun 16\nrun 17\nrun 18\nrun 18\nrun 18\nreport\ncancel 1536\nstep 1536\nend\n"; answer = Ok (codes "object 0 at 1000\nobject 1 at 1600\nobject 2 at 1c00\nobject 3 at 2200\nobject 4 at 2800\nobject 5 at 2e00\nobject 6 at 3400\nobject 7 at 3a00\nobject 8 at 4000\nobject 9 at 4600\nobject 10 at 4c00\nobject 11 at 5200\nobject 12 at 5800\nobject 13 at 5e00\nobject 14 at 6400\nobject 15 at 6a00\nobject 16 at 7000\ndone\ndone\ndone\ndone\ndone\ndone\ndone\ndone\ndone\ndone\nleft 20\nprotect left 19\nprotect left 18\nprotect left 17\ncopy left 16\ncopy left 15\ncopy left 14\ncopy left 13\ncopy left 12\ncopy left 11\ncopy left 10\ncopy left 9\nleft 3\nunprotect left 2\nrefused 12 BUSY\nrefused 12 BUSY\nrefused 12 BUSY\nrefused 12 BUSY\nrefused 12 BUSY\nrefused 17 NOT_EMPTY\nfound 0 probes 0\nreport objects 8 bytes 12000 mapped 9 taken 9 saved 0\ndone\nblocked\nblocked\ndone\ndone\ndone\nblocked\ndone\ndone\ndone\nblocked\ndone\ndone\nbytes a3\nbytes 05\nbytes b2\nbytes c2\nbyte a3\nbyte 05\nbyte b2\nbyte c2\nat 4c00\nat 1000\nat 7000\ndone\ndone\ndone\nobject 17 at 7600\ndone\ndone\ndone\nreport objects 6 bytes 9000 mapped 9 taken 9 saved 0\nleft 2\nunprotect left 1\n") }

abbrev pub one_page_writable : Row
one_page_writable = record { file = codes "mesh 2\npages 16\nhistory 64\nworkers 19\nworker 0\nnew 0 1500 0\nnew 1 1500 0\nnew 2 1500 0\nnew 3 1500 0\nnew 4 1500 0\nnew 5 1500 0\nnew 6 1500 0\nnew 7 1500 0\nnew 8 1500 0\nnew 9 1500 0\nnew 10 1500 0\nnew 11 1500 0\nnew 12 1500 0\nnew 13 1500 0\nnew 14 1500 0\nnew 15 1500 0\nnew 16 1500 0\nput 10 1020 0102030405060708\nfree 2\nfree 8\nfree 9\nfree 11\nfree 12\nfree 13\nfree 14\nfree 15\nfree 7\nworker 1\nput 10 0 a1\nworker 2\nput 10 1024 a2\nworker 3\nput 10 1020 0102030405060708\nworker 4\nput 0 0 b1\nworker 5\nput 16 0 c1\nworker 6\npoke 4c00 a3\nworker 7\npoke 5000 a4\nworker 8\npoke 1000 b2\nworker 9\npoke 7000 c2\nworker 10\ncopy 10 8 0 0 4\nworker 11\ncopy 10 1032 0 0 4\nworker 12\ncopy 0 8 10 0 4\nworker 13\ncopy 16 8 10 0 4\nworker 14\nget 10 0 1\nget 10 1024 1\nget 0 0 1\nget 16 0 1\nworker 15\npeek 4c00\npeek 5000\npeek 1000\npeek 7000\nworker 16\naddr 10\naddr 0\naddr 16\nalias 20 10\nalias 21 0\nalias 22 16\nworker 17\nnew 23 1500 0\nworker 18\nfree 10\nfree 0\nfree 16\nplan\nrun 0\nrun 0\nrun 0\nrun 0\nrun 0\nrun 0\nrun 0\nrun 0\nrun 0\nrun 0\nrun 0\nrun 0\nrun 0\nrun 0\nrun 0\nrun 0\nrun 0\nrun 0\nrun 0\nrun 0\nrun 0\nrun 0\nrun 0\nrun 0\nrun 0\nrun 0\nrun 0\nbegin 1 0\nstep 1536\nstep 1536\nstep 1536\nstep 1536\nstep 1536\nstep 1536\nstep 1536\nstep 1536\nstep 1536\nstep 1536\nstep 1536\nstep 1536\nstep 1536\nstep 1536\nstep 1536\nbegin 1 2\nbegin 2 0\nwhole 2 0\nsweep 1\nsweep 0\nsweep 2\npair 1536 1\nreport\nrun 1\nrun 2\nrun 3\nrun 4\nrun 5\nrun 6\nrun 7\nrun 8\nrun 9\nrun 10\nrun 11\nrun 12\nrun 13\nrun 14\nrun 14\nrun 14\nrun 14\nrun 15\nrun 15\nrun 15\nrun 15\nrun 16\nrun 16\nrun 16\nrun 16\nrun 16\nrun 16\nrun 17\nrun 18\nrun 18\nrun 18\nreport\ncancel 1536\nstep 1536\nend\n"; answer = Ok (codes "object 0 at 1000\nobject 1 at 1600\nobject 2 at 1c00\nobject 3 at 2200\nobject 4 at 2800\nobject 5 at 2e00\nobject 6 at 3400\nobject 7 at 3a00\nobject 8 at 4000\nobject 9 at 4600\nobject 10 at 4c00\nobject 11 at 5200\nobject 12 at 5800\nobject 13 at 5e00\nobject 14 at 6400\nobject 15 at 6a00\nobject 16 at 7000\ndone\ndone\ndone\ndone\ndone\ndone\ndone\ndone\ndone\ndone\nleft 20\nprotect left 19\nprotect left 18\nprotect left 17\ncopy left 16\ncopy left 15\ncopy left 14\ncopy left 13\ncopy left 12\ncopy left 11\ncopy left 10\ncopy left 9\nremap left 8\nremap left 7\nremap left 6\nunprotect left 5\nrefused 12 BUSY\nrefused 12 BUSY\nrefused 12 BUSY\nrefused 12 BUSY\nrefused 12 BUSY\nrefused 17 NOT_EMPTY\nfound 0 probes 0\nreport objects 8 bytes 12000 mapped 9 taken 9 saved 0\ndone\nblocked\nblocked\ndone\ndone\ndone\nblocked\ndone\ndone\ndone\nblocked\ndone\ndone\nbytes a3\nbytes 05\nbytes b2\nbytes c2\nbyte a3\nbyte 05\nbyte b2\nbyte c2\nat 4c00\nat 1000\nat 7000\ndone\ndone\ndone\nobject 17 at 7600\ndone\ndone\ndone\nreport objects 6 bytes 9000 mapped 9 taken 9 saved 0\nrefused 16 TOO_LATE\nunprotect left 4\n") }

abbrev pub over : Row
over = record { file = codes "mesh 2\npages 16\nhistory 64\nworkers 19\nworker 0\nnew 0 1500 0\nnew 1 1500 0\nnew 2 1500 0\nnew 3 1500 0\nnew 4 1500 0\nnew 5 1500 0\nnew 6 1500 0\nnew 7 1500 0\nnew 8 1500 0\nnew 9 1500 0\nnew 10 1500 0\nnew 11 1500 0\nnew 12 1500 0\nnew 13 1500 0\nnew 14 1500 0\nnew 15 1500 0\nnew 16 1500 0\nput 10 1020 0102030405060708\nfree 2\nfree 8\nfree 9\nfree 11\nfree 12\nfree 13\nfree 14\nfree 15\nfree 7\nworker 1\nput 10 0 a1\nworker 2\nput 10 1024 a2\nworker 3\nput 10 1020 0102030405060708\nworker 4\nput 0 0 b1\nworker 5\nput 16 0 c1\nworker 6\npoke 4c00 a3\nworker 7\npoke 5000 a4\nworker 8\npoke 1000 b2\nworker 9\npoke 7000 c2\nworker 10\ncopy 10 8 0 0 4\nworker 11\ncopy 10 1032 0 0 4\nworker 12\ncopy 0 8 10 0 4\nworker 13\ncopy 16 8 10 0 4\nworker 14\nget 10 0 1\nget 10 1024 1\nget 0 0 1\nget 16 0 1\nworker 15\npeek 4c00\npeek 5000\npeek 1000\npeek 7000\nworker 16\naddr 10\naddr 0\naddr 16\nalias 20 10\nalias 21 0\nalias 22 16\nworker 17\nnew 23 1500 0\nworker 18\nfree 10\nfree 0\nfree 16\nplan\nrun 0\nrun 0\nrun 0\nrun 0\nrun 0\nrun 0\nrun 0\nrun 0\nrun 0\nrun 0\nrun 0\nrun 0\nrun 0\nrun 0\nrun 0\nrun 0\nrun 0\nrun 0\nrun 0\nrun 0\nrun 0\nrun 0\nrun 0\nrun 0\nrun 0\nrun 0\nrun 0\nbegin 1 0\nstep 1536\nstep 1536\nstep 1536\nstep 1536\nstep 1536\nstep 1536\nstep 1536\nstep 1536\nstep 1536\nstep 1536\nstep 1536\nstep 1536\nstep 1536\nstep 1536\nstep 1536\nstep 1536\nstep 1536\nstep 1536\nstep 1536\nstep 1536\nbegin 1 2\nbegin 2 0\nwhole 2 0\nsweep 1\nsweep 0\nsweep 2\npair 1536 1\nreport\nrun 1\nrun 2\nrun 3\nrun 4\nrun 5\nrun 6\nrun 7\nrun 8\nrun 9\nrun 10\nrun 11\nrun 12\nrun 13\nrun 14\nrun 14\nrun 14\nrun 14\nrun 15\nrun 15\nrun 15\nrun 15\nrun 16\nrun 16\nrun 16\nrun 16\nrun 16\nrun 16\nrun 17\nrun 18\nrun 18\nrun 18\nreport\ncancel 1536\nstep 1536\nend\n"; answer = Ok (codes "object 0 at 1000\nobject 1 at 1600\nobject 2 at 1c00\nobject 3 at 2200\nobject 4 at 2800\nobject 5 at 2e00\nobject 6 at 3400\nobject 7 at 3a00\nobject 8 at 4000\nobject 9 at 4600\nobject 10 at 4c00\nobject 11 at 5200\nobject 12 at 5800\nobject 13 at 5e00\nobject 14 at 6400\nobject 15 at 6a00\nobject 16 at 7000\ndone\ndone\ndone\ndone\ndone\ndone\ndone\ndone\ndone\ndone\nleft 20\nprotect left 19\nprotect left 18\nprotect left 17\ncopy left 16\ncopy left 15\ncopy left 14\ncopy left 13\ncopy left 12\ncopy left 11\ncopy left 10\ncopy left 9\nremap left 8\nremap left 7\nremap left 6\nunprotect left 5\nunprotect left 4\nunprotect left 3\nrelease left 2\nrelease left 1\nrelease left 0\nrefused 9 NO_GROUP\nrefused 13 OVERLAP\nrefused 13 OVERLAP\nrefused 9 NO_GROUP\nrefused 17 NOT_EMPTY\nrefused 17 NOT_EMPTY\nfound 0 probes 1\nreport objects 8 bytes 12000 mapped 9 taken 6 saved 3\ndone\ndone\ndone\ndone\ndone\ndone\ndone\ndone\ndone\ndone\ndone\ndone\ndone\nbytes a3\nbytes a4\nbytes b2\nbytes c2\nbyte a3\nbyte a4\nbyte b2\nbyte c2\nat 4c00\nat 1000\nat 7000\ndone\ndone\ndone\nobject 17 at 3a00\ndone\ndone\ndone\nreport objects 6 bytes 9000 mapped 9 taken 6 saved 3\nrefused 15 NO_MESH\nrefused 15 NO_MESH\n") }

abbrev pub protected : Row
protected = record { file = codes "mesh 2\npages 16\nhistory 64\nworkers 19\nworker 0\nnew 0 1500 0\nnew 1 1500 0\nnew 2 1500 0\nnew 3 1500 0\nnew 4 1500 0\nnew 5 1500 0\nnew 6 1500 0\nnew 7 1500 0\nnew 8 1500 0\nnew 9 1500 0\nnew 10 1500 0\nnew 11 1500 0\nnew 12 1500 0\nnew 13 1500 0\nnew 14 1500 0\nnew 15 1500 0\nnew 16 1500 0\nput 10 1020 0102030405060708\nfree 2\nfree 8\nfree 9\nfree 11\nfree 12\nfree 13\nfree 14\nfree 15\nfree 7\nworker 1\nput 10 0 a1\nworker 2\nput 10 1024 a2\nworker 3\nput 10 1020 0102030405060708\nworker 4\nput 0 0 b1\nworker 5\nput 16 0 c1\nworker 6\npoke 4c00 a3\nworker 7\npoke 5000 a4\nworker 8\npoke 1000 b2\nworker 9\npoke 7000 c2\nworker 10\ncopy 10 8 0 0 4\nworker 11\ncopy 10 1032 0 0 4\nworker 12\ncopy 0 8 10 0 4\nworker 13\ncopy 16 8 10 0 4\nworker 14\nget 10 0 1\nget 10 1024 1\nget 0 0 1\nget 16 0 1\nworker 15\npeek 4c00\npeek 5000\npeek 1000\npeek 7000\nworker 16\naddr 10\naddr 0\naddr 16\nalias 20 10\nalias 21 0\nalias 22 16\nworker 17\nnew 23 1500 0\nworker 18\nfree 10\nfree 0\nfree 16\nplan\nrun 0\nrun 0\nrun 0\nrun 0\nrun 0\nrun 0\nrun 0\nrun 0\nrun 0\nrun 0\nrun 0\nrun 0\nrun 0\nrun 0\nrun 0\nrun 0\nrun 0\nrun 0\nrun 0\nrun 0\nrun 0\nrun 0\nrun 0\nrun 0\nrun 0\nrun 0\nrun 0\nbegin 1 0\nstep 1536\nstep 1536\nstep 1536\nbegin 1 2\nbegin 2 0\nwhole 2 0\nsweep 1\nsweep 0\nsweep 2\npair 1536 1\nreport\nrun 1\nrun 2\nrun 3\nrun 4\nrun 5\nrun 6\nrun 7\nrun 8\nrun 9\nrun 10\nrun 11\nrun 12\nrun 13\nrun 14\nrun 14\nrun 14\nrun 14\nrun 15\nrun 15\nrun 15\nrun 15\nrun 16\nrun 16\nrun 16\nrun 16\nrun 16\nrun 16\nrun 17\nrun 18\nrun 18\nrun 18\nreport\ncancel 1536\nstep 1536\nend\n"; answer = Ok (codes "object 0 at 1000\nobject 1 at 1600\nobject 2 at 1c00\nobject 3 at 2200\nobject 4 at 2800\nobject 5 at 2e00\nobject 6 at 3400\nobject 7 at 3a00\nobject 8 at 4000\nobject 9 at 4600\nobject 10 at 4c00\nobject 11 at 5200\nobject 12 at 5800\nobject 13 at 5e00\nobject 14 at 6400\nobject 15 at 6a00\nobject 16 at 7000\ndone\ndone\ndone\ndone\ndone\ndone\ndone\ndone\ndone\ndone\nleft 20\nprotect left 19\nprotect left 18\nprotect left 17\nrefused 12 BUSY\nrefused 12 BUSY\nrefused 12 BUSY\nrefused 12 BUSY\nrefused 12 BUSY\nrefused 17 NOT_EMPTY\nfound 0 probes 0\nreport objects 8 bytes 12000 mapped 9 taken 9 saved 0\nblocked\nblocked\nblocked\ndone\ndone\nblocked\nblocked\ndone\ndone\nblocked\nblocked\ndone\ndone\nbytes 00\nbytes 05\nbytes b2\nbytes c2\nbyte 00\nbyte 05\nbyte b2\nbyte c2\nat 4c00\nat 1000\nat 7000\ndone\ndone\ndone\nobject 17 at 7600\ndone\ndone\ndone\nreport objects 6 bytes 9000 mapped 9 taken 9 saved 0\nleft 3\nunprotect left 2\n") }

abbrev pub remapped : Row
remapped = record { file = codes "mesh 2\npages 16\nhistory 64\nworkers 19\nworker 0\nnew 0 1500 0\nnew 1 1500 0\nnew 2 1500 0\nnew 3 1500 0\nnew 4 1500 0\nnew 5 1500 0\nnew 6 1500 0\nnew 7 1500 0\nnew 8 1500 0\nnew 9 1500 0\nnew 10 1500 0\nnew 11 1500 0\nnew 12 1500 0\nnew 13 1500 0\nnew 14 1500 0\nnew 15 1500 0\nnew 16 1500 0\nput 10 1020 0102030405060708\nfree 2\nfree 8\nfree 9\nfree 11\nfree 12\nfree 13\nfree 14\nfree 15\nfree 7\nworker 1\nput 10 0 a1\nworker 2\nput 10 1024 a2\nworker 3\nput 10 1020 0102030405060708\nworker 4\nput 0 0 b1\nworker 5\nput 16 0 c1\nworker 6\npoke 4c00 a3\nworker 7\npoke 5000 a4\nworker 8\npoke 1000 b2\nworker 9\npoke 7000 c2\nworker 10\ncopy 10 8 0 0 4\nworker 11\ncopy 10 1032 0 0 4\nworker 12\ncopy 0 8 10 0 4\nworker 13\ncopy 16 8 10 0 4\nworker 14\nget 10 0 1\nget 10 1024 1\nget 0 0 1\nget 16 0 1\nworker 15\npeek 4c00\npeek 5000\npeek 1000\npeek 7000\nworker 16\naddr 10\naddr 0\naddr 16\nalias 20 10\nalias 21 0\nalias 22 16\nworker 17\nnew 23 1500 0\nworker 18\nfree 10\nfree 0\nfree 16\nplan\nrun 0\nrun 0\nrun 0\nrun 0\nrun 0\nrun 0\nrun 0\nrun 0\nrun 0\nrun 0\nrun 0\nrun 0\nrun 0\nrun 0\nrun 0\nrun 0\nrun 0\nrun 0\nrun 0\nrun 0\nrun 0\nrun 0\nrun 0\nrun 0\nrun 0\nrun 0\nrun 0\nbegin 1 0\nstep 1536\nstep 1536\nstep 1536\nstep 1536\nstep 1536\nstep 1536\nstep 1536\nstep 1536\nstep 1536\nstep 1536\nstep 1536\nstep 1536\nstep 1536\nstep 1536\nbegin 1 2\nbegin 2 0\nwhole 2 0\nsweep 1\nsweep 0\nsweep 2\npair 1536 1\nreport\nrun 1\nrun 2\nrun 3\nrun 4\nrun 5\nrun 6\nrun 7\nrun 8\nrun 9\nrun 10\nrun 11\nrun 12\nrun 13\nrun 14\nrun 14\nrun 14\nrun 14\nrun 15\nrun 15\nrun 15\nrun 15\nrun 16\nrun 16\nrun 16\nrun 16\nrun 16\nrun 16\nrun 17\nrun 18\nrun 18\nrun 18\nreport\ncancel 1536\nstep 1536\nend\n"; answer = Ok (codes "object 0 at 1000\nobject 1 at 1600\nobject 2 at 1c00\nobject 3 at 2200\nobject 4 at 2800\nobject 5 at 2e00\nobject 6 at 3400\nobject 7 at 3a00\nobject 8 at 4000\nobject 9 at 4600\nobject 10 at 4c00\nobject 11 at 5200\nobject 12 at 5800\nobject 13 at 5e00\nobject 14 at 6400\nobject 15 at 6a00\nobject 16 at 7000\ndone\ndone\ndone\ndone\ndone\ndone\ndone\ndone\ndone\ndone\nleft 20\nprotect left 19\nprotect left 18\nprotect left 17\ncopy left 16\ncopy left 15\ncopy left 14\ncopy left 13\ncopy left 12\ncopy left 11\ncopy left 10\ncopy left 9\nremap left 8\nremap left 7\nremap left 6\nrefused 12 BUSY\nrefused 12 BUSY\nrefused 12 BUSY\nrefused 12 BUSY\nrefused 12 BUSY\nrefused 17 NOT_EMPTY\nfound 0 probes 0\nreport objects 8 bytes 12000 mapped 9 taken 9 saved 0\nblocked\nblocked\nblocked\ndone\ndone\nblocked\nblocked\ndone\ndone\nblocked\nblocked\ndone\ndone\nbytes 00\nbytes 05\nbytes b2\nbytes c2\nbyte 00\nbyte 05\nbyte b2\nbyte c2\nat 4c00\nat 1000\nat 7000\ndone\ndone\ndone\nobject 17 at 7600\ndone\ndone\ndone\nreport objects 6 bytes 9000 mapped 9 taken 9 saved 0\nrefused 16 TOO_LATE\nunprotect left 5\n") }

abbrev pub writable : Row
writable = record { file = codes "mesh 2\npages 16\nhistory 64\nworkers 19\nworker 0\nnew 0 1500 0\nnew 1 1500 0\nnew 2 1500 0\nnew 3 1500 0\nnew 4 1500 0\nnew 5 1500 0\nnew 6 1500 0\nnew 7 1500 0\nnew 8 1500 0\nnew 9 1500 0\nnew 10 1500 0\nnew 11 1500 0\nnew 12 1500 0\nnew 13 1500 0\nnew 14 1500 0\nnew 15 1500 0\nnew 16 1500 0\nput 10 1020 0102030405060708\nfree 2\nfree 8\nfree 9\nfree 11\nfree 12\nfree 13\nfree 14\nfree 15\nfree 7\nworker 1\nput 10 0 a1\nworker 2\nput 10 1024 a2\nworker 3\nput 10 1020 0102030405060708\nworker 4\nput 0 0 b1\nworker 5\nput 16 0 c1\nworker 6\npoke 4c00 a3\nworker 7\npoke 5000 a4\nworker 8\npoke 1000 b2\nworker 9\npoke 7000 c2\nworker 10\ncopy 10 8 0 0 4\nworker 11\ncopy 10 1032 0 0 4\nworker 12\ncopy 0 8 10 0 4\nworker 13\ncopy 16 8 10 0 4\nworker 14\nget 10 0 1\nget 10 1024 1\nget 0 0 1\nget 16 0 1\nworker 15\npeek 4c00\npeek 5000\npeek 1000\npeek 7000\nworker 16\naddr 10\naddr 0\naddr 16\nalias 20 10\nalias 21 0\nalias 22 16\nworker 17\nnew 23 1500 0\nworker 18\nfree 10\nfree 0\nfree 16\nplan\nrun 0\nrun 0\nrun 0\nrun 0\nrun 0\nrun 0\nrun 0\nrun 0\nrun 0\nrun 0\nrun 0\nrun 0\nrun 0\nrun 0\nrun 0\nrun 0\nrun 0\nrun 0\nrun 0\nrun 0\nrun 0\nrun 0\nrun 0\nrun 0\nrun 0\nrun 0\nrun 0\nbegin 1 0\nstep 1536\nstep 1536\nstep 1536\nstep 1536\nstep 1536\nstep 1536\nstep 1536\nstep 1536\nstep 1536\nstep 1536\nstep 1536\nstep 1536\nstep 1536\nstep 1536\nstep 1536\nstep 1536\nstep 1536\nbegin 1 2\nbegin 2 0\nwhole 2 0\nsweep 1\nsweep 0\nsweep 2\npair 1536 1\nreport\nrun 1\nrun 2\nrun 3\nrun 4\nrun 5\nrun 6\nrun 7\nrun 8\nrun 9\nrun 10\nrun 11\nrun 12\nrun 13\nrun 14\nrun 14\nrun 14\nrun 14\nrun 15\nrun 15\nrun 15\nrun 15\nrun 16\nrun 16\nrun 16\nrun 16\nrun 16\nrun 16\nrun 17\nrun 18\nrun 18\nrun 18\nreport\ncancel 1536\nstep 1536\nend\n"; answer = Ok (codes "object 0 at 1000\nobject 1 at 1600\nobject 2 at 1c00\nobject 3 at 2200\nobject 4 at 2800\nobject 5 at 2e00\nobject 6 at 3400\nobject 7 at 3a00\nobject 8 at 4000\nobject 9 at 4600\nobject 10 at 4c00\nobject 11 at 5200\nobject 12 at 5800\nobject 13 at 5e00\nobject 14 at 6400\nobject 15 at 6a00\nobject 16 at 7000\ndone\ndone\ndone\ndone\ndone\ndone\ndone\ndone\ndone\ndone\nleft 20\nprotect left 19\nprotect left 18\nprotect left 17\ncopy left 16\ncopy left 15\ncopy left 14\ncopy left 13\ncopy left 12\ncopy left 11\ncopy left 10\ncopy left 9\nremap left 8\nremap left 7\nremap left 6\nunprotect left 5\nunprotect left 4\nunprotect left 3\nrefused 12 BUSY\nrefused 12 BUSY\nrefused 12 BUSY\nrefused 12 BUSY\nrefused 12 BUSY\nrefused 17 NOT_EMPTY\nfound 0 probes 0\nreport objects 8 bytes 12000 mapped 9 taken 9 saved 0\ndone\ndone\ndone\ndone\ndone\ndone\ndone\ndone\ndone\ndone\ndone\ndone\ndone\nbytes a3\nbytes a4\nbytes b2\nbytes c2\nbyte a3\nbyte a4\nbyte b2\nbyte c2\nat 4c00\nat 1000\nat 7000\ndone\ndone\ndone\nobject 17 at 7600\ndone\ndone\ndone\nreport objects 6 bytes 9000 mapped 9 taken 9 saved 0\nrefused 16 TOO_LATE\nrelease left 2\n") }

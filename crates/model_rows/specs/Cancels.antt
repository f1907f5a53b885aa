-- Worked examples: cancels. Written by tools/gen/rows.py from jobs/golden/cancels.
use Rattle.std.specs.Prelude.{Ok, codes}
use Rattle.model_rows.specs.Rows.{Row}

abbrev pub cancel_after_three_protects : Row
cancel_after_three_protects = record { file = codes "mesh 1\npages 16\nhistory 64\nworkers 3\nworker 0\nnew 0 1500 0\nnew 1 1500 0\nnew 2 1500 0\nnew 3 1500 0\nnew 4 1500 0\nnew 5 1500 0\nnew 6 1500 0\nnew 7 1500 0\nnew 8 1500 2\nnew 9 1500 4\nfree 2\nfree 5\nput 8 0 c1\nput 8 1 c2\nget 9 0 1\nget 9 512 1\nget 8 0 2\nworker 1\nput 9 0 a1\nput 9 0 a2\nworker 2\nput 9 512 b1\nput 9 512 b2\nput 9 512 b3\nplan\nrun 0\nrun 0\nrun 0\nrun 0\nrun 0\nrun 0\nrun 0\nrun 0\nrun 0\nrun 0\nrun 0\nrun 0\nbegin 1 0\nstep\nrun 1\nrun 2\nstep\nrun 1\nrun 2\nstep\nrun 2\ncancel\nrun 0\nrun 1\nstep\nrun 0\nrun 1\nrun 2\ncancel\nrun 0\nrun 1\nstep\nrun 1\nrun 2\nstep\nrun 2\ncancel\nrun 0\nwhole 1 0\nrun 0\nrun 0\nreport\nend\n"; answer = Ok (codes "object 0 at 1000\nobject 1 at 1600\nobject 2 at 1c00\nobject 3 at 2200\nobject 4 at 2800\nobject 5 at 2e00\nobject 6 at 3400\nobject 7 at 3a00\nobject 8 at 4c00\nobject 9 at 5e00\ndone\ndone\nleft 20\nprotect left 19\ndone\ndone\nprotect left 18\nblocked\ndone\nprotect left 17\nblocked\nleft 3\nblocked\nblocked\nunprotect left 2\ndone\nblocked\nblocked\nleft 2\ndone\nblocked\nunprotect left 1\ndone\nblocked\nunprotect left 0\ndone\nrefused 15 NO_MESH\nbytes a2\nmeshed 3\nbytes b3\nbytes c1c2\nreport objects 8 bytes 12000 mapped 6 taken 3 saved 3\n") }

abbrev pub cancel_at_once : Row
cancel_at_once = record { file = codes "mesh 1\npages 16\nhistory 64\nworkers 1\nworker 0\nnew 0 2048 0\nnew 1 2048 0\nnew 2 2048 0\nnew 3 2048 0\nfree 0\nfree 3\nplan\nrun 0\nrun 0\nrun 0\nrun 0\nrun 0\nrun 0\nbegin 1 0\ncancel\nstep\nbegin 1 0\nstep\ncancel\ncancel\nstep\ncancel\nend\n"; answer = Ok (codes "object 0 at 1000\nobject 1 at 1800\nobject 2 at 2000\nobject 3 at 2800\ndone\ndone\nleft 6\nleft 0\nrefused 15 NO_MESH\nleft 6\nprotect left 5\nleft 1\nleft 1\nunprotect left 0\nrefused 15 NO_MESH\n") }

abbrev pub cancelled_mesh : Row
cancelled_mesh = record { file = codes "mesh 1\npages 16\nhistory 64\nworkers 1\nworker 0\nnew 0 2048 0\nnew 1 2048 0\nnew 2 2048 0\nnew 3 2048 0\nfree 0\nfree 3\nput 2 0 ee\nplan\nrun 0\nrun 0\nrun 0\nrun 0\nrun 0\nrun 0\nbegin 1 0\nstep\nstep\ncancel\nstep\nstep\nrun 0\nbegin 1 0\nstep\nstep\nstep\nstep\ncancel\nend\n"; answer = Ok (codes "object 0 at 1000\nobject 1 at 1800\nobject 2 at 2000\nobject 3 at 2800\ndone\ndone\nleft 6\nprotect left 5\ncopy left 4\nleft 1\nunprotect left 0\nrefused 15 NO_MESH\ndone\nleft 6\nprotect left 5\ncopy left 4\ncopy left 3\nremap left 2\nrefused 16 TOO_LATE\n") }

abbrev pub zeros_after_cancel : Row
zeros_after_cancel = record { file = codes "mesh 1\npages 16\nhistory 64\nworkers 1\nworker 0\nnew 0 2048 0\nnew 1 2048 0\nnew 2 2048 0\nnew 3 2048 0\nfree 0\nfree 3\nput 2 0 ab\nnew 4 2048 0\nget 4 0 1\nplan\nrun 0\nrun 0\nrun 0\nrun 0\nrun 0\nrun 0\nrun 0\nbegin 1 0\nstep\nstep\ncancel\nstep\nrun 0\nrun 0\nend\n"; answer = Ok (codes "object 0 at 1000\nobject 1 at 1800\nobject 2 at 2000\nobject 3 at 2800\ndone\ndone\ndone\nleft 6\nprotect left 5\ncopy left 4\nleft 1\nunprotect left 0\nobject 4 at 1000\nbytes 00\n") }

-- Worked examples: abandoned. Written by tools/gen/rows.py from jobs/golden/abandoned.
use Rattle.std.specs.Prelude.{Ok, codes}
use Rattle.model_rows.specs.Rows.{Row}

abbrev pub abandoned_after_00 : Row
abandoned_after_00 = record { file = codes "mesh 1\npages 16\nhistory 64\nworkers 3\nworker 0\nnew 0 1500 0\nnew 1 1500 0\nnew 2 1500 0\nnew 3 1500 0\nnew 4 1500 0\nnew 5 1500 0\nnew 6 1500 0\nnew 7 1500 0\nnew 8 1500 0\nnew 9 1500 0\nnew 10 1500 0\nput 10 1020 0102030405060708\nfree 2\nfree 8\nfree 9\nget 10 1020 8\nworker 1\nput 10 0 ff\nworker 2\nput 10 1020 0102030405060708\nplan\nrun 0\nrun 0\nrun 0\nrun 0\nrun 0\nrun 0\nrun 0\nrun 0\nrun 0\nrun 0\nrun 0\nrun 0\nrun 0\nrun 0\nrun 0\nbegin 1 0\nrun 0\nrun 1\nrun 2\ncancel\nend\n"; answer = Ok (codes "object 0 at 1000\nobject 1 at 1600\nobject 2 at 1c00\nobject 3 at 2200\nobject 4 at 2800\nobject 5 at 2e00\nobject 6 at 3400\nobject 7 at 3a00\nobject 8 at 4000\nobject 9 at 4600\nobject 10 at 4c00\ndone\ndone\ndone\ndone\nleft 20\nbytes 0102030405060708\ndone\ndone\nleft 0\n") }

abbrev pub abandoned_after_01 : Row
abandoned_after_01 = record { file = codes "mesh 1\npages 16\nhistory 64\nworkers 3\nworker 0\nnew 0 1500 0\nnew 1 1500 0\nnew 2 1500 0\nnew 3 1500 0\nnew 4 1500 0\nnew 5 1500 0\nnew 6 1500 0\nnew 7 1500 0\nnew 8 1500 0\nnew 9 1500 0\nnew 10 1500 0\nput 10 1020 0102030405060708\nfree 2\nfree 8\nfree 9\nget 10 1020 8\nworker 1\nput 10 0 ff\nworker 2\nput 10 1020 0102030405060708\nplan\nrun 0\nrun 0\nrun 0\nrun 0\nrun 0\nrun 0\nrun 0\nrun 0\nrun 0\nrun 0\nrun 0\nrun 0\nrun 0\nrun 0\nrun 0\nbegin 1 0\nstep\nrun 0\nrun 1\nrun 2\ncancel\nend\n"; answer = Ok (codes "object 0 at 1000\nobject 1 at 1600\nobject 2 at 1c00\nobject 3 at 2200\nobject 4 at 2800\nobject 5 at 2e00\nobject 6 at 3400\nobject 7 at 3a00\nobject 8 at 4000\nobject 9 at 4600\nobject 10 at 4c00\ndone\ndone\ndone\ndone\nleft 20\nprotect left 19\nbytes 0102030405060708\nblocked\nblocked\nleft 1\n") }

abbrev pub abandoned_after_02 : Row
abandoned_after_02 = record { file = codes "mesh 1\npages 16\nhistory 64\nworkers 3\nworker 0\nnew 0 1500 0\nnew 1 1500 0\nnew 2 1500 0\nnew 3 1500 0\nnew 4 1500 0\nnew 5 1500 0\nnew 6 1500 0\nnew 7 1500 0\nnew 8 1500 0\nnew 9 1500 0\nnew 10 1500 0\nput 10 1020 0102030405060708\nfree 2\nfree 8\nfree 9\nget 10 1020 8\nworker 1\nput 10 0 ff\nworker 2\nput 10 1020 0102030405060708\nplan\nrun 0\nrun 0\nrun 0\nrun 0\nrun 0\nrun 0\nrun 0\nrun 0\nrun 0\nrun 0\nrun 0\nrun 0\nrun 0\nrun 0\nrun 0\nbegin 1 0\nstep\nstep\nrun 0\nrun 1\nrun 2\ncancel\nend\n"; answer = Ok (codes "object 0 at 1000\nobject 1 at 1600\nobject 2 at 1c00\nobject 3 at 2200\nobject 4 at 2800\nobject 5 at 2e00\nobject 6 at 3400\nobject 7 at 3a00\nobject 8 at 4000\nobject 9 at 4600\nobject 10 at 4c00\ndone\ndone\ndone\ndone\nleft 20\nprotect left 19\nprotect left 18\nbytes 0102030405060708\nblocked\nblocked\nleft 2\n") }

abbrev pub abandoned_after_03 : Row
abandoned_after_03 = record { file = codes "mesh 1\npages 16\nhistory 64\nworkers 3\nworker 0\nnew 0 1500 0\nnew 1 1500 0\nnew 2 1500 0\nnew 3 1500 0\nnew 4 1500 0\nnew 5 1500 0\nnew 6 1500 0\nnew 7 1500 0\nnew 8 1500 0\nnew 9 1500 0\nnew 10 1500 0\nput 10 1020 0102030405060708\nfree 2\nfree 8\nfree 9\nget 10 1020 8\nworker 1\nput 10 0 ff\nworker 2\nput 10 1020 0102030405060708\nplan\nrun 0\nrun 0\nrun 0\nrun 0\nrun 0\nrun 0\nrun 0\nrun 0\nrun 0\nrun 0\nrun 0\nrun 0\nrun 0\nrun 0\nrun 0\nbegin 1 0\nstep\nstep\nstep\nrun 0\nrun 1\nrun 2\ncancel\nend\n"; answer = Ok (codes "object 0 at 1000\nobject 1 at 1600\nobject 2 at 1c00\nobject 3 at 2200\nobject 4 at 2800\nobject 5 at 2e00\nobject 6 at 3400\nobject 7 at 3a00\nobject 8 at 4000\nobject 9 at 4600\nobject 10 at 4c00\ndone\ndone\ndone\ndone\nleft 20\nprotect left 19\nprotect left 18\nprotect left 17\nbytes 0102030405060708\nblocked\nblocked\nleft 3\n") }

abbrev pub abandoned_after_04 : Row
abandoned_after_04 = record { file = codes "mesh 1\npages 16\nhistory 64\nworkers 3\nworker 0\nnew 0 1500 0\nnew 1 1500 0\nnew 2 1500 0\nnew 3 1500 0\nnew 4 1500 0\nnew 5 1500 0\nnew 6 1500 0\nnew 7 1500 0\nnew 8 1500 0\nnew 9 1500 0\nnew 10 1500 0\nput 10 1020 0102030405060708\nfree 2\nfree 8\nfree 9\nget 10 1020 8\nworker 1\nput 10 0 ff\nworker 2\nput 10 1020 0102030405060708\nplan\nrun 0\nrun 0\nrun 0\nrun 0\nrun 0\nrun 0\nrun 0\nrun 0\nrun 0\nrun 0\nrun 0\nrun 0\nrun 0\nrun 0\nrun 0\nbegin 1 0\nstep\nstep\nstep\nstep\nrun 0\nrun 1\nrun 2\ncancel\nend\n"; answer = Ok (codes "object 0 at 1000\nobject 1 at 1600\nobject 2 at 1c00\nobject 3 at 2200\nobject 4 at 2800\nobject 5 at 2e00\nobject 6 at 3400\nobject 7 at 3a00\nobject 8 at 4000\nobject 9 at 4600\nobject 10 at 4c00\ndone\ndone\ndone\ndone\nleft 20\nprotect left 19\nprotect left 18\nprotect left 17\ncopy left 16\nbytes 0102030405060708\nblocked\nblocked\nleft 3\n") }

abbrev pub abandoned_after_05 : Row
abandoned_after_05 = record { file = codes "mesh 1\npages 16\nhistory 64\nworkers 3\nworker 0\nnew 0 1500 0\nnew 1 1500 0\nnew 2 1500 0\nnew 3 1500 0\nnew 4 1500 0\nnew 5 1500 0\nnew 6 1500 0\nnew 7 1500 0\nnew 8 1500 0\nnew 9 1500 0\nnew 10 1500 0\nput 10 1020 0102030405060708\nfree 2\nfree 8\nfree 9\nget 10 1020 8\nworker 1\nput 10 0 ff\nworker 2\nput 10 1020 0102030405060708\nplan\nrun 0\nrun 0\nrun 0\nrun 0\nrun 0\nrun 0\nrun 0\nrun 0\nrun 0\nrun 0\nrun 0\nrun 0\nrun 0\nrun 0\nrun 0\nbegin 1 0\nstep\nstep\nstep\nstep\nstep\nrun 0\nrun 1\nrun 2\ncancel\nend\n"; answer = Ok (codes "object 0 at 1000\nobject 1 at 1600\nobject 2 at 1c00\nobject 3 at 2200\nobject 4 at 2800\nobject 5 at 2e00\nobject 6 at 3400\nobject 7 at 3a00\nobject 8 at 4000\nobject 9 at 4600\nobject 10 at 4c00\ndone\ndone\ndone\ndone\nleft 20\nprotect left 19\nprotect left 18\nprotect left 17\ncopy left 16\ncopy left 15\nbytes 0102030405060708\nblocked\nblocked\nleft 3\n") }

abbrev pub abandoned_after_06 : Row
abandoned_after_06 = record { file = codes "mesh 1\npages 16\nhistory 64\nworkers 3\nworker 0\nnew 0 1500 0\nnew 1 1500 0\nnew 2 1500 0\nnew 3 1500 0\nnew 4 1500 0\nnew 5 1500 0\nnew 6 1500 0\nnew 7 1500 0\nnew 8 1500 0\nnew 9 1500 0\nnew 10 1500 0\nput 10 1020 0102030405060708\nfree 2\nfree 8\nfree 9\nget 10 1020 8\nworker 1\nput 10 0 ff\nworker 2\nput 10 1020 0102030405060708\nplan\nrun 0\nrun 0\nrun 0\nrun 0\nrun 0\nrun 0\nrun 0\nrun 0\nrun 0\nrun 0\nrun 0\nrun 0\nrun 0\nrun 0\nrun 0\nbegin 1 0\nstep\nstep\nstep\nstep\nstep\nstep\nrun 0\nrun 1\nrun 2\ncancel\nend\n"; answer = Ok (codes "object 0 at 1000\nobject 1 at 1600\nobject 2 at 1c00\nobject 3 at 2200\nobject 4 at 2800\nobject 5 at 2e00\nobject 6 at 3400\nobject 7 at 3a00\nobject 8 at 4000\nobject 9 at 4600\nobject 10 at 4c00\ndone\ndone\ndone\ndone\nleft 20\nprotect left 19\nprotect left 18\nprotect left 17\ncopy left 16\ncopy left 15\ncopy left 14\nbytes 0102030405060708\nblocked\nblocked\nleft 3\n") }

abbrev pub abandoned_after_07 : Row
abandoned_after_07 = record { file = codes "mesh 1\npages 16\nhistory 64\nworkers 3\nworker 0\nnew 0 1500 0\nnew 1 1500 0\nnew 2 1500 0\nnew 3 1500 0\nnew 4 1500 0\nnew 5 1500 0\nnew 6 1500 0\nnew 7 1500 0\nnew 8 1500 0\nnew 9 1500 0\nnew 10 1500 0\nput 10 1020 0102030405060708\nfree 2\nfree 8\nfree 9\nget 10 1020 8\nworker 1\nput 10 0 ff\nworker 2\nput 10 1020 0102030405060708\nplan\nrun 0\nrun 0\nrun 0\nrun 0\nrun 0\nrun 0\nrun 0\nrun 0\nrun 0\nrun 0\nrun 0\nrun 0\nrun 0\nrun 0\nrun 0\nbegin 1 0\nstep\nstep\nstep\nstep\nstep\nstep\nstep\nrun 0\nrun 1\nrun 2\ncancel\nend\n"; answer = Ok (codes "object 0 at 1000\nobject 1 at 1600\nobject 2 at 1c00\nobject 3 at 2200\nobject 4 at 2800\nobject 5 at 2e00\nobject 6 at 3400\nobject 7 at 3a00\nobject 8 at 4000\nobject 9 at 4600\nobject 10 at 4c00\ndone\ndone\ndone\ndone\nleft 20\nprotect left 19\nprotect left 18\nprotect left 17\ncopy left 16\ncopy left 15\ncopy left 14\ncopy left 13\nbytes 0102030405060708\nblocked\nblocked\nleft 3\n") }

abbrev pub abandoned_after_08 : Row
abandoned_after_08 = record { file = codes "mesh 1\npages 16\nhistory 64\nworkers 3\nworker 0\nnew 0 1500 0\nnew 1 1500 0\nnew 2 1500 0\nnew 3 1500 0\nnew 4 1500 0\nnew 5 1500 0\nnew 6 1500 0\nnew 7 1500 0\nnew 8 1500 0\nnew 9 1500 0\nnew 10 1500 0\nput 10 1020 0102030405060708\nfree 2\nfree 8\nfree 9\nget 10 1020 8\nworker 1\nput 10 0 ff\nworker 2\nput 10 1020 0102030405060708\nplan\nrun 0\nrun 0\nrun 0\nrun 0\nrun 0\nrun 0\nrun 0\nrun 0\nrun 0\nrun 0\nrun 0\nrun 0\nrun 0\nrun 0\nrun 0\nbegin 1 0\nstep\nstep\nstep\nstep\nstep\nstep\nstep\nstep\nrun 0\nrun 1\nrun 2\ncancel\nend\n"; answer = Ok (codes "object 0 at 1000\nobject 1 at 1600\nobject 2 at 1c00\nobject 3 at 2200\nobject 4 at 2800\nobject 5 at 2e00\nobject 6 at 3400\nobject 7 at 3a00\nobject 8 at 4000\nobject 9 at 4600\nobject 10 at 4c00\ndone\ndone\ndone\ndone\nleft 20\nprotect left 19\nprotect left 18\nprotect left 17\ncopy left 16\ncopy left 15\ncopy left 14\ncopy left 13\ncopy left 12\nbytes 0102030405060708\nblocked\nblocked\nleft 3\n") }

abbrev pub abandoned_after_09 : Row
abandoned_after_09 = record { file = codes "mesh 1\npages 16\nhistory 64\nworkers 3\nworker 0\nnew 0 1500 0\nnew 1 1500 0\nnew 2 1500 0\nnew 3 1500 0\nnew 4 1500 0\nnew 5 1500 0\nnew 6 1500 0\nnew 7 1500 0\nnew 8 1500 0\nnew 9 1500 0\nnew 10 1500 0\nput 10 1020 0102030405060708\nfree 2\nfree 8\nfree 9\nget 10 1020 8\nworker 1\nput 10 0 ff\nworker 2\nput 10 1020 0102030405060708\nplan\nrun 0\nrun 0\nrun 0\nrun 0\nrun 0\nrun 0\nrun 0\nrun 0\nrun 0\nrun 0\nrun 0\nrun 0\nrun 0\nrun 0\nrun 0\nbegin 1 0\nstep\nstep\nstep\nstep\nstep\nstep\nstep\nstep\nstep\nrun 0\nrun 1\nrun 2\ncancel\nend\n"; answer = Ok (codes "object 0 at 1000\nobject 1 at 1600\nobject 2 at 1c00\nobject 3 at 2200\nobject 4 at 2800\nobject 5 at 2e00\nobject 6 at 3400\nobject 7 at 3a00\nobject 8 at 4000\nobject 9 at 4600\nobject 10 at 4c00\ndone\ndone\ndone\ndone\nleft 20\nprotect left 19\nprotect left 18\nprotect left 17\ncopy left 16\ncopy left 15\ncopy left 14\ncopy left 13\ncopy left 12\ncopy left 11\nbytes 0102030405060708\nblocked\nblocked\nleft 3\n") }

abbrev pub abandoned_after_10 : Row
abandoned_after_10 = record { file = codes "mesh 1\npages 16\nhistory 64\nworkers 3\nworker 0\nnew 0 1500 0\nnew 1 1500 0\nnew 2 1500 0\nnew 3 1500 0\nnew 4 1500 0\nnew 5 1500 0\nnew 6 1500 0\nnew 7 1500 0\nnew 8 1500 0\nnew 9 1500 0\nnew 10 1500 0\nput 10 1020 0102030405060708\nfree 2\nfree 8\nfree 9\nget 10 1020 8\nworker 1\nput 10 0 ff\nworker 2\nput 10 1020 0102030405060708\nplan\nrun 0\nrun 0\nrun 0\nrun 0\nrun 0\nrun 0\nrun 0\nrun 0\nrun 0\nrun 0\nrun 0\nrun 0\nrun 0\nrun 0\nrun 0\nbegin 1 0\nstep\nstep\nstep\nstep\nstep\nstep\nstep\nstep\nstep\nstep\nrun 0\nrun 1\nrun 2\ncancel\nend\n"; answer = Ok (codes "object 0 at 1000\nobject 1 at 1600\nobject 2 at 1c00\nobject 3 at 2200\nobject 4 at 2800\nobject 5 at 2e00\nobject 6 at 3400\nobject 7 at 3a00\nobject 8 at 4000\nobject 9 at 4600\nobject 10 at 4c00\ndone\ndone\ndone\ndone\nleft 20\nprotect left 19\nprotect left 18\nprotect left 17\ncopy left 16\ncopy left 15\ncopy left 14\ncopy left 13\ncopy left 12\ncopy left 11\ncopy left 10\nbytes 0102030405060708\nblocked\nblocked\nleft 3\n") }

abbrev pub abandoned_after_11 : Row
abandoned_after_11 = record { file = codes "mesh 1\npages 16\nhistory 64\nworkers 3\nworker 0\nnew 0 1500 0\nnew 1 1500 0\nnew 2 1500 0\nnew 3 1500 0\nnew 4 1500 0\nnew 5 1500 0\nnew 6 1500 0\nnew 7 1500 0\nnew 8 1500 0\nnew 9 1500 0\nnew 10 1500 0\nput 10 1020 0102030405060708\nfree 2\nfree 8\nfree 9\nget 10 1020 8\nworker 1\nput 10 0 ff\nworker 2\nput 10 1020 0102030405060708\nplan\nrun 0\nrun 0\nrun 0\nrun 0\nrun 0\nrun 0\nrun 0\nrun 0\nrun 0\nrun 0\nrun 0\nrun 0\nrun 0\nrun 0\nrun 0\nbegin 1 0\nstep\nstep\nstep\nstep\nstep\nstep\nstep\nstep\nstep\nstep\nstep\nrun 0\nrun 1\nrun 2\ncancel\nend\n"; answer = Ok (codes "object 0 at 1000\nobject 1 at 1600\nobject 2 at 1c00\nobject 3 at 2200\nobject 4 at 2800\nobject 5 at 2e00\nobject 6 at 3400\nobject 7 at 3a00\nobject 8 at 4000\nobject 9 at 4600\nobject 10 at 4c00\ndone\ndone\ndone\ndone\nleft 20\nprotect left 19\nprotect left 18\nprotect left 17\ncopy left 16\ncopy left 15\ncopy left 14\ncopy left 13\ncopy left 12\ncopy left 11\ncopy left 10\ncopy left 9\nbytes 0102030405060708\nblocked\nblocked\nleft 3\n") }

abbrev pub abandoned_after_12 : Row
abandoned_after_12 = record { file = codes "mesh 1\npages 16\nhistory 64\nworkers 3\nworker 0\nnew 0 1500 0\nnew 1 1500 0\nnew 2 1500 0\nnew 3 1500 0\nnew 4 1500 0\nnew 5 1500 0\nnew 6 1500 0\nnew 7 1500 0\nnew 8 1500 0\nnew 9 1500 0\nnew 10 1500 0\nput 10 1020 0102030405060708\nfree 2\nfree 8\nfree 9\nget 10 1020 8\nworker 1\nput 10 0 ff\nworker 2\nput 10 1020 0102030405060708\nplan\nrun 0\nrun 0\nrun 0\nrun 0\nrun 0\nrun 0\nrun 0\nrun 0\nrun 0\nrun 0\nrun 0\nrun 0\nrun 0\nrun 0\nrun 0\nbegin 1 0\nstep\nstep\nstep\nstep\nstep\nstep\nstep\nstep\nstep\nstep\nstep\nstep\nrun 0\nrun 1\nrun 2\ncancel\nend\n"; answer = Ok (codes "object 0 at 1000\nobject 1 at 1600\nobject 2 at 1c00\nobject 3 at 2200\nobject 4 at 2800\nobject 5 at 2e00\nobject 6 at 3400\nobject 7 at 3a00\nobject 8 at 4000\nobject 9 at 4600\nobject 10 at 4c00\ndone\ndone\ndone\ndone\nleft 20\nprotect left 19\nprotect left 18\nprotect left 17\ncopy left 16\ncopy left 15\ncopy left 14\ncopy left 13\ncopy left 12\ncopy left 11\ncopy left 10\ncopy left 9\nremap left 8\nbytes 0102030405060708\nblocked\nblocked\nrefused 16 TOO_LATE\n") }

abbrev pub abandoned_after_13 : Row
abandoned_after_13 = record { file = codes "mesh 1\npages 16\nhistory 64\nworkers 3\nworker 0\nnew 0 1500 0\nnew 1 1500 0\nnew 2 1500 0\nnew 3 1500 0\nnew 4 1500 0\nnew 5 1500 0\nnew 6 1500 0\nnew 7 1500 0\nnew 8 1500 0\nnew 9 1500 0\nnew 10 1500 0\nput 10 1020 0102030405060708\nfree 2\nfree 8\nfree 9\nget 10 1020 8\nworker 1\nput 10 0 ff\nworker 2\nput 10 1020 0102030405060708\nplan\nrun 0\nrun 0\nrun 0\nrun 0\nrun 0\nrun 0\nrun 0\nrun 0\nrun 0\nrun 0\nrun 0\nrun 0\nrun 0\nrun 0\nrun 0\nbegin 1 0\nstep\nstep\nstep\nstep\nstep\nstep\nstep\nstep\nstep\nstep\nstep\nstep\nstep\nrun 0\nrun 1\nrun 2\ncancel\nend\n"; answer = Ok (codes "object 0 at 1000\nobject 1 at 1600\nobject 2 at 1c00\nobject 3 at 2200\nobject 4 at 2800\nobject 5 at 2e00\nobject 6 at 3400\nobject 7 at 3a00\nobject 8 at 4000\nobject 9 at 4600\nobject 10 at 4c00\ndone\ndone\ndone\ndone\nleft 20\nprotect left 19\nprotect left 18\nprotect left 17\ncopy left 16\ncopy left 15\ncopy left 14\ncopy left 13\ncopy left 12\ncopy left 11\ncopy left 10\ncopy left 9\nremap left 8\nremap left 7\nbytes 0102030405060708\nblocked\nblocked\nrefused 16 TOO_LATE\n") }

abbrev pub abandoned_after_14 : Row
abandoned_after_14 = record { file = codes "mesh 1\npages 16\nhistory 64\nworkers 3\nworker 0\nnew 0 1500 0\nnew 1 1500 0\nnew 2 1500 0\nnew 3 1500 0\nnew 4 1500 0\nnew 5 1500 0\nnew 6 1500 0\nnew 7 1500 0\nnew 8 1500 0\nnew 9 1500 0\nnew 10 1500 0\nput 10 1020 0102030405060708\nfree 2\nfree 8\nfree 9\nget 10 1020 8\nworker 1\nput 10 0 ff\nworker 2\nput 10 1020 0102030405060708\nplan\nrun 0\nrun 0\nrun 0\nrun 0\nrun 0\nrun 0\nrun 0\nrun 0\nrun 0\nrun 0\nrun 0\nrun 0\nrun 0\nrun 0\nrun 0\nbegin 1 0\nstep\nstep\nstep\nstep\nstep\nstep\nstep\nstep\nstep\nstep\nstep\nstep\nstep\nstep\nrun 0\nrun 1\nrun 2\ncancel\nend\n"; answer = Ok (codes "object 0 at 1000\nobject 1 at 1600\nobject 2 at 1c00\nobject 3 at 2200\nobject 4 at 2800\nobject 5 at 2e00\nobject 6 at 3400\nobject 7 at 3a00\nobject 8 at 4000\nobject 9 at 4600\nobject 10 at 4c00\ndone\ndone\ndone\ndone\nleft 20\nprotect left 19\nprotect left 18\nprotect left 17\ncopy left 16\ncopy left 15\ncopy left 14\ncopy left 13\ncopy left 12\ncopy left 11\ncopy left 10\ncopy left 9\nremap left 8\nremap left 7\nremap left 6\nbytes 0102030405060708\nblocked\nblocked\nrefused 16 TOO_LATE\n") }

abbrev pub abandoned_after_15 : Row
abandoned_after_15 = record { file = codes "mesh 1\npages 16\nhistory 64\nworkers 3\nworker 0\nnew 0 1500 0\nnew 1 1500 0\nnew 2 1500 0\nnew 3 1500 0\nnew 4 1500 0\nnew 5 1500 0\nnew 6 1500 0\nnew 7 1500 0\nnew 8 1500 0\nnew 9 1500 0\nnew 10 1500 0\nput 10 1020 0102030405060708\nfree 2\nfree 8\nfree 9\nget 10 1020 8\nworker 1\nput 10 0 ff\nworker 2\nput 10 1020 0102030405060708\nplan\nrun 0\nrun 0\nrun 0\nrun 0\nrun 0\nrun 0\nrun 0\nrun 0\nrun 0\nrun 0\nrun 0\nrun 0\nrun 0\nrun 0\nrun 0\nbegin 1 0\nstep\nstep\nstep\nstep\nstep\nstep\nstep\nstep\nstep\nstep\nstep\nstep\nstep\nstep\nstep\nrun 0\nrun 1\nrun 2\ncancel\nend\n"; answer = Ok (codes "object 0 at 1000\nobject 1 at 1600\nobject 2 at 1c00\nobject 3 at 2200\nobject 4 at 2800\nobject 5 at 2e00\nobject 6 at 3400\nobject 7 at 3a00\nobject 8 at 4000\nobject 9 at 4600\nobject 10 at 4c00\ndone\ndone\ndone\ndone\nleft 20\nprotect left 19\nprotect left 18\nprotect left 17\ncopy left 16\ncopy left 15\ncopy left 14\ncopy left 13\ncopy left 12\ncopy left 11\ncopy left 10\ncopy left 9\nremap left 8\nremap left 7\nremap left 6\nunprotect left 5\nbytes 0102030405060708\ndone\nblocked\nrefused 16 TOO_LATE\n") }

abbrev pub abandoned_after_16 : Row
abandoned_after_16 = record { file = codes "mesh 1\npages 16\nhistory 64\nworkers 3\nworker 0\nnew 0 1500 0\nnew 1 1500 0\nnew 2 1500 0\nnew 3 1500 0\nnew 4 1500 0\nnew 5 1500 0\nnew 6 1500 0\nnew 7 1500 0\nnew 8 1500 0\nnew 9 1500 0\nnew 10 1500 0\nput 10 1020 0102030405060708\nfree 2\nfree 8\nfree 9\nget 10 1020 8\nworker 1\nput 10 0 ff\nworker 2\nput 10 1020 0102030405060708\nplan\nrun 0\nrun 0\nrun 0\nrun 0\nrun 0\nrun 0\nrun 0\nrun 0\nrun 0\nrun 0\nrun 0\nrun 0\nrun 0\nrun 0\nrun 0\nbegin 1 0\nstep\nstep\nstep\nstep\nstep\nstep\nstep\nstep\nstep\nstep\nstep\nstep\nstep\nstep\nstep\nstep\nrun 0\nrun 1\nrun 2\ncancel\nend\n"; answer = Ok (codes "object 0 at 1000\nobject 1 at 1600\nobject 2 at 1c00\nobject 3 at 2200\nobject 4 at 2800\nobject 5 at 2e00\nobject 6 at 3400\nobject 7 at 3a00\nobject 8 at 4000\nobject 9 at 4600\nobject 10 at 4c00\ndone\ndone\ndone\ndone\nleft 20\nprotect left 19\nprotect left 18\nprotect left 17\ncopy left 16\ncopy left 15\ncopy left 14\ncopy left 13\ncopy left 12\ncopy left 11\ncopy left 10\ncopy left 9\nremap left 8\nremap left 7\nremap left 6\nunprotect left 5\nunprotect left 4\nbytes 0102030405060708\ndone\ndone\nrefused 16 TOO_LATE\n") }

abbrev pub abandoned_after_17 : Row
abandoned_after_17 = record { file = codes "mesh 1\npages 16\nhistory 64\nworkers 3\nworker 0\nnew 0 1500 0\nnew 1 1500 0\nnew 2 1500 0\nnew 3 1500 0\nnew 4 1500 0\nnew 5 1500 0\nnew 6 1500 0\nnew 7 1500 0\nnew 8 1500 0\nnew 9 1500 0\nnew 10 1500 0\nput 10 1020 0102030405060708\nfree 2\nfree 8\nfree 9\nget 10 1020 8\nworker 1\nput 10 0 ff\nworker 2\nput 10 1020 0102030405060708\nplan\nrun 0\nrun 0\nrun 0\nrun 0\nrun 0\nrun 0\nrun 0\nrun 0\nrun 0\nrun 0\nrun 0\nrun 0\nrun 0\nrun 0\nrun 0\nbegin 1 0\nstep\nstep\nstep\nstep\nstep\nstep\nstep\nstep\nstep\nstep\nstep\nstep\nstep\nstep\nstep\nstep\nstep\nrun 0\nrun 1\nrun 2\ncancel\nend\n"; answer = Ok (codes "object 0 at 1000\nobject 1 at 1600\nobject 2 at 1c00\nobject 3 at 2200\nobject 4 at 2800\nobject 5 at 2e00\nobject 6 at 3400\nobject 7 at 3a00\nobject 8 at 4000\nobject 9 at 4600\nobject 10 at 4c00\ndone\ndone\ndone\ndone\nleft 20\nprotect left 19\nprotect left 18\nprotect left 17\ncopy left 16\ncopy left 15\ncopy left 14\ncopy left 13\ncopy left 12\ncopy left 11\ncopy left 10\ncopy left 9\nremap left 8\nremap left 7\nremap left 6\nunprotect left 5\nunprotect left 4\nunprotect left 3\nbytes 0102030405060708\ndone\ndone\nrefused 16 TOO_LATE\n") }

abbrev pub abandoned_after_18 : Row
abandoned_after_18 = record { file = codes "mesh 1\npages 16\nhistory 64\nworkers 3\nworker 0\nnew 0 1500 0\nnew 1 1500 0\nnew 2 1500 0\nnew 3 1500 0\nnew 4 1500 0\nnew 5 1500 0\nnew 6 1500 0\nnew 7 1500 0\nnew 8 1500 0\nnew 9 1500 0\nnew 10 1500 0\nput 10 1020 0102030405060708\nfree 2\nfree 8\nfree 9\nget 10 1020 8\nworker 1\nput 10 0 ff\nworker 2\nput 10 1020 0102030405060708\nplan\nrun 0\nrun 0\nrun 0\nrun 0\nrun 0\nrun 0\nrun 0\nrun 0\nrun 0\nrun 0\nrun 0\nrun 0\nrun 0\nrun 0\nrun 0\nbegin 1 0\nstep\nstep\nstep\nstep\nstep\nstep\nstep\nstep\nstep\nstep\nstep\nstep\nstep\nstep\nstep\nstep\nstep\nstep\nrun 0\nrun 1\nrun 2\ncancel\nend\n"; answer = Ok (codes "object 0 at 1000\nobject 1 at 1600\nobject 2 at 1c00\nobject 3 at 2200\nobject 4 at 2800\nobject 5 at 2e00\nobject 6 at 3400\nobject 7 at 3a00\nobject 8 at 4000\nobject 9 at 4600\nobject 10 at 4c00\ndone\ndone\ndone\ndone\nleft 20\nprotect left 19\nprotect left 18\nprotect left 17\ncopy left 16\ncopy left 15\ncopy left 14\ncopy left 13\ncopy left 12\ncopy left 11\ncopy left 10\ncopy left 9\nremap left 8\nremap left 7\nremap left 6\nunprotect left 5\nunprotect left 4\nunprotect left 3\nrelease left 2\nbytes 0102030405060708\ndone\ndone\nrefused 16 TOO_LATE\n") }

abbrev pub abandoned_after_19 : Row
abandoned_after_19 = record { file = codes "mesh 1\npages 16\nhistory 64\nworkers 3\nworker 0\nnew 0 1500 0\nnew 1 1500 0\nnew 2 1500 0\nnew 3 1500 0\nnew 4 1500 0\nnew 5 1500 0\nnew 6 1500 0\nnew 7 1500 0\nnew 8 1500 0\nnew 9 1500 0\nnew 10 1500 0\nput 10 1020 0102030405060708\nfree 2\nfree 8\nfree 9\nget 10 1020 8\nworker 1\nput 10 0 ff\nworker 2\nput 10 1020 0102030405060708\nplan\nrun 0\nrun 0\nrun 0\nrun 0\nrun 0\nrun 0\nrun 0\nrun 0\nrun 0\nrun 0\nrun 0\nrun 0\nrun 0\nrun 0\nrun 0\nbegin 1 0\nstep\nstep\nstep\nstep\nstep\nstep\nstep\nstep\nstep\nstep\nstep\nstep\nstep\nstep\nstep\nstep\nstep\nstep\nstep\nrun 0\nrun 1\nrun 2\ncancel\nend\n"; answer = Ok (codes "object 0 at 1000\nobject 1 at 1600\nobject 2 at 1c00\nobject 3 at 2200\nobject 4 at 2800\nobject 5 at 2e00\nobject 6 at 3400\nobject 7 at 3a00\nobject 8 at 4000\nobject 9 at 4600\nobject 10 at 4c00\ndone\ndone\ndone\ndone\nleft 20\nprotect left 19\nprotect left 18\nprotect left 17\ncopy left 16\ncopy left 15\ncopy left 14\ncopy left 13\ncopy left 12\ncopy left 11\ncopy left 10\ncopy left 9\nremap left 8\nremap left 7\nremap left 6\nunprotect left 5\nunprotect left 4\nunprotect left 3\nrelease left 2\nrelease left 1\nbytes 0102030405060708\ndone\ndone\nrefused 16 TOO_LATE\n") }

abbrev pub abandoned_after_20 : Row
abandoned_after_20 = record { file = codes "mesh 1\npages 16\nhistory 64\nworkers 3\nworker 0\nnew 0 1500 0\nnew 1 1500 0\nnew 2 1500 0\nnew 3 1500 0\nnew 4 1500 0\nnew 5 1500 0\nnew 6 1500 0\nnew 7 1500 0\nnew 8 1500 0\nnew 9 1500 0\nnew 10 1500 0\nput 10 1020 0102030405060708\nfree 2\nfree 8\nfree 9\nget 10 1020 8\nworker 1\nput 10 0 ff\nworker 2\nput 10 1020 0102030405060708\nplan\nrun 0\nrun 0\nrun 0\nrun 0\nrun 0\nrun 0\nrun 0\nrun 0\nrun 0\nrun 0\nrun 0\nrun 0\nrun 0\nrun 0\nrun 0\nbegin 1 0\nstep\nstep\nstep\nstep\nstep\nstep\nstep\nstep\nstep\nstep\nstep\nstep\nstep\nstep\nstep\nstep\nstep\nstep\nstep\nstep\nrun 0\nrun 1\nrun 2\ncancel\nend\n"; answer = Ok (codes "object 0 at 1000\nobject 1 at 1600\nobject 2 at 1c00\nobject 3 at 2200\nobject 4 at 2800\nobject 5 at 2e00\nobject 6 at 3400\nobject 7 at 3a00\nobject 8 at 4000\nobject 9 at 4600\nobject 10 at 4c00\ndone\ndone\ndone\ndone\nleft 20\nprotect left 19\nprotect left 18\nprotect left 17\ncopy left 16\ncopy left 15\ncopy left 14\ncopy left 13\ncopy left 12\ncopy left 11\ncopy left 10\ncopy left 9\nremap left 8\nremap left 7\nremap left 6\nunprotect left 5\nunprotect left 4\nunprotect left 3\nrelease left 2\nrelease left 1\nrelease left 0\nbytes 0102030405060708\ndone\ndone\nrefused 15 NO_MESH\n") }

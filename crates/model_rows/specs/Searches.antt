-- Worked examples: searches. Written by tools/gen/rows.py from jobs/golden/searches.
use Rattle.std.specs.Prelude.{Ok, codes}
use Rattle.model_rows.specs.Rows.{Row}

abbrev pub fewer_objects_is_source : Row
fewer_objects_is_source = record { file = codes "mesh 1\npages 16\nhistory 64\nworkers 1\nworker 0\nnew 0 1024 0\nnew 1 1024 0\nnew 2 1024 0\nnew 3 1024 0\nnew 4 1024 0\nnew 5 1024 0\nnew 6 1024 0\nnew 7 1024 0\nfree 0\nfree 1\nfree 2\nfree 7\nplan\nrun 0\nrun 0\nrun 0\nrun 0\nrun 0\nrun 0\nrun 0\nrun 0\nrun 0\nrun 0\nrun 0\nrun 0\npair 1024 1\nend\n"; answer = Ok (codes "object 0 at 1000\nobject 1 at 1400\nobject 2 at 1800\nobject 3 at 1c00\nobject 4 at 2000\nobject 5 at 2400\nobject 6 at 2800\nobject 7 at 2c00\ndone\ndone\ndone\ndone\nfound 1 probes 1 0:1\n") }

abbrev pub groups_that_are_no_candidates : Row
groups_that_are_no_candidates = record { file = codes "mesh 1\npages 16\nhistory 64\nworkers 1\nworker 0\nnew 0 2048 0\nnew 1 2048 0\nnew 2 2048 0\nnew 3 2048 0\nnew 4 2048 0\nnew 5 2048 0\nnew 6 2048 0\nnew 7 2048 0\nnew 8 2048 0\nnew 9 2048 0\nnew 10 2048 0\nnew 11 2048 0\nfree 1\nfree 2\nfree 6\nfree 7\nfree 9\nfree 10\nplan\nrun 0\nrun 0\nrun 0\nrun 0\nrun 0\nrun 0\nrun 0\nrun 0\nrun 0\nrun 0\nrun 0\nrun 0\nrun 0\nrun 0\nrun 0\nrun 0\nrun 0\nrun 0\npair 2048 1\npair 2048 2\nbegin 1 0\npair 2048 1\nstep\ncancel\npair 2048 1\nstep\npair 2048 2\npair 1024 2\nend\n"; answer = Ok (codes "object 0 at 1000\nobject 1 at 1800\nobject 2 at 2000\nobject 3 at 2800\nobject 4 at 3000\nobject 5 at 3800\nobject 6 at 4000\nobject 7 at 4800\nobject 8 at 5000\nobject 9 at 5800\nobject 10 at 6000\nobject 11 at 6800\ndone\ndone\ndone\ndone\ndone\ndone\nfound 0 probes 2\nfound 2 probes 4 5:0 4:1\nleft 6\nfound 1 probes 1 5:4\nprotect left 5\nleft 1\nfound 1 probes 1 5:4\nunprotect left 0\nfound 2 probes 4 5:0 4:1\nfound 0 probes 0\n") }

abbrev pub pair_overtaken : Row
pair_overtaken = record { file = codes "mesh 1\npages 16\nhistory 64\nworkers 1\nworker 0\nnew 0 2048 0\nnew 1 2048 0\nnew 2 2048 0\nnew 3 2048 0\nnew 4 2048 0\nnew 5 2048 0\nnew 6 2048 0\nnew 7 2048 0\nfree 1\nfree 3\nfree 4\nfree 6\nnew 1 2048 0\nplan\nrun 0\nrun 0\nrun 0\nrun 0\nrun 0\nrun 0\nrun 0\nrun 0\nrun 0\nrun 0\nrun 0\nrun 0\npair 2048 0 2 0 5\npair 2048 1 2 0 5\npair 2048 2 2 0 5\nrun 0\nbegin 3 0\nbegin 1 2\nend\n"; answer = Ok (codes "object 0 at 1000\nobject 1 at 1800\nobject 2 at 2000\nobject 3 at 2800\nobject 4 at 3000\nobject 5 at 3800\nobject 6 at 4000\nobject 7 at 4800\ndone\ndone\ndone\ndone\nfound 0 probes 0\nfound 0 probes 2\nfound 2 probes 4 1:2 3:0\nobject 8 at 1800\nrefused 13 OVERLAP\nleft 6\n") }

abbrev pub rounds_on_shorter_lists : Row
rounds_on_shorter_lists = record { file = codes "mesh 1\npages 16\nhistory 64\nworkers 1\nworker 0\nnew 0 1024 0\nnew 1 1024 0\nnew 2 1024 0\nnew 3 1024 0\nnew 4 1024 0\nnew 5 1024 0\nnew 6 1024 0\nnew 7 1024 0\nnew 8 1024 0\nnew 9 1024 0\nnew 10 1024 0\nnew 11 1024 0\nnew 12 1024 0\nnew 13 1024 0\nnew 14 1024 0\nnew 15 1024 0\nnew 16 1024 0\nnew 17 1024 0\nnew 18 1024 0\nnew 19 1024 0\nnew 20 1024 0\nnew 21 1024 0\nnew 22 1024 0\nfree 1\nfree 2\nfree 3\nfree 4\nfree 6\nfree 7\nfree 8\nfree 9\nfree 11\nfree 13\nfree 14\nfree 15\nfree 18\nfree 19\nfree 20\nplan\nrun 0\nrun 0\nrun 0\nrun 0\nrun 0\nrun 0\nrun 0\nrun 0\nrun 0\nrun 0\nrun 0\nrun 0\nrun 0\nrun 0\nrun 0\nrun 0\nrun 0\nrun 0\nrun 0\nrun 0\nrun 0\nrun 0\nrun 0\nrun 0\nrun 0\nrun 0\nrun 0\nrun 0\nrun 0\nrun 0\nrun 0\nrun 0\nrun 0\nrun 0\nrun 0\nrun 0\nrun 0\nrun 0\npair 1024 1\npair 1024 2\npair 1024 3\npair 1024 4\npair 1024 64\nend\n"; answer = Ok (codes "object 0 at 1000\nobject 1 at 1400\nobject 2 at 1800\nobject 3 at 1c00\nobject 4 at 2000\nobject 5 at 2400\nobject 6 at 2800\nobject 7 at 2c00\nobject 8 at 3000\nobject 9 at 3400\nobject 10 at 3800\nobject 11 at 3c00\nobject 12 at 4000\nobject 13 at 4400\nobject 14 at 4800\nobject 15 at 4c00\nobject 16 at 5000\nobject 17 at 5400\nobject 18 at 5800\nobject 19 at 5c00\nobject 20 at 6000\nobject 21 at 6400\nobject 22 at 6800\ndone\ndone\ndone\ndone\ndone\ndone\ndone\ndone\ndone\ndone\ndone\ndone\ndone\ndone\ndone\nfound 0 probes 3\nfound 1 probes 6 3:2\nfound 1 probes 8 3:2\nfound 2 probes 10 3:2 0:5\nfound 2 probes 70 3:2 0:5\n") }

abbrev pub search_in_order : Row
search_in_order = record { file = codes "mesh 1\npages 16\nhistory 64\nworkers 1\nworker 0\nnew 0 2048 0\nnew 1 2048 0\nnew 2 2048 0\nnew 3 2048 0\nnew 4 2048 0\nnew 5 2048 0\nnew 6 2048 0\nnew 7 2048 0\nfree 1\nfree 3\nfree 4\nfree 6\nplan\nrun 0\nrun 0\nrun 0\nrun 0\nrun 0\nrun 0\nrun 0\nrun 0\nrun 0\nrun 0\nrun 0\nrun 0\npair 2048 1\npair 64 3 9\nend\n"; answer = Ok (codes "object 0 at 1000\nobject 1 at 1800\nobject 2 at 2000\nobject 3 at 2800\nobject 4 at 3000\nobject 5 at 3800\nobject 6 at 4000\nobject 7 at 4800\ndone\ndone\ndone\ndone\nfound 2 probes 2 2:0 3:1\nfound 0 probes 0\n") }

abbrev pub split_search : Row
split_search = record { file = codes "mesh 1\npages 16\nhistory 64\nworkers 1\nworker 0\nnew 0 2048 0\nnew 1 2048 0\nnew 2 2048 0\nnew 3 2048 0\nnew 4 2048 0\nnew 5 2048 0\nnew 6 2048 0\nnew 7 2048 0\nfree 1\nfree 3\nfree 4\nfree 6\nfree 7\nplan\nrun 0\nrun 0\nrun 0\nrun 0\nrun 0\nrun 0\nrun 0\nrun 0\nrun 0\nrun 0\nrun 0\nrun 0\npair 2048 0 2 0 5\npair 2048 1 2 0 5\npair 2048 2 2 0 5\nrun 0\npair 2048 2 2 0 5\nend\n"; answer = Ok (codes "object 0 at 1000\nobject 1 at 1800\nobject 2 at 2000\nobject 3 at 2800\nobject 4 at 3000\nobject 5 at 3800\nobject 6 at 4000\nobject 7 at 4800\ndone\ndone\ndone\ndone\nfound 0 probes 0\nfound 0 probes 2\nfound 2 probes 4 1:2 3:0\ndone\nfound 1 probes 1 0:2\n") }

abbrev pub words_of_a_search : Row
words_of_a_search = record { file = codes "mesh 1\npages 16\nhistory 64\nworkers 1\nworker 0\nnew 0 2048 0\nnew 1 2048 0\nnew 2 2048 0\nnew 3 2048 0\nnew 4 2048 0\nnew 5 2048 0\nnew 6 2048 0\nnew 7 2048 0\nfree 1\nfree 3\nfree 4\nfree 6\nplan\nrun 0\nrun 0\nrun 0\nrun 0\nrun 0\nrun 0\nrun 0\nrun 0\nrun 0\nrun 0\nrun 0\nrun 0\npair 2048 1\npair 2048 1 0 4294967296\npair 2048 1 18446744073709551615\npair 2048 64 0 4294967296 0 0 18446744073709551615 5 6 7 8 9 10 11 12 13 14 15 16 17 18 19 20 21 22 23 24 25 26 27 28 29 30 18446744073709551615\nend\n"; answer = Ok (codes "object 0 at 1000\nobject 1 at 1800\nobject 2 at 2000\nobject 3 at 2800\nobject 4 at 3000\nobject 5 at 3800\nobject 6 at 4000\nobject 7 at 4800\ndone\ndone\ndone\ndone\nfound 2 probes 2 2:0 3:1\nfound 0 probes 2\nfound 2 probes 2 1:3 2:0\nfound 2 probes 4 3:0 1:2\n") }

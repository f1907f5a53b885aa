-- Worked examples: mutators. Written by tools/gen/rows.py from jobs/golden/mutators.
use Rattle.std.specs.Prelude.{Ok, codes}
use Rattle.model_rows.specs.Rows.{Row}

abbrev pub first_bytes : Row
first_bytes = record { file = codes "mesh 1\npages 16\nhistory 64\nworkers 1\nworker 0\nnew 0 2048 0\nput 0 0 6869\nget 0 0 2\nplan\nrun 0\nrun 0\nrun 0\nend\n"; answer = Ok (codes "object 0 at 1000\ndone\nbytes 6869\n") }

abbrev pub history_full : Row
history_full = record { file = codes "mesh 1\npages 16\nhistory 1\nworkers 1\nworker 0\nnew 0 2048 0\nget 0 0 1\nplan\nrun 0\nrun 0\nend\n"; answer = Ok (codes "object 0 at 1000\nhistory full\n") }

abbrev pub largest_numbers : Row
largest_numbers = record { file = codes "mesh 1\npages 4096\nhistory 65536\nworkers 1\nworker 0\nnew 255 2048 18446744073709551615\nput 255 2016 000102030405060708090a0b0c0d0e0f101112131415161718191a1b1c1d1e1f\nget 255 2016 32\nget 255 65535 32\nput 255 65535 ff\nnew 0 65535 0\nalias 0 255\npoke 1fff ff\nget 0 2047 1\npeek fffffff\nplan\nrun 0\nrun 0\nrun 0\nrun 0\nrun 0\nrun 0\nrun 0\nrun 0\nrun 0\nrun 0\nend\n"; answer = Ok (codes "object 0 at 1800\ndone\nbytes 000102030405060708090a0b0c0d0e0f101112131415161718191a1b1c1d1e1f\nrefused 7 OUTSIDE\nrefused 7 OUTSIDE\nrefused 2 TOO_LARGE\ndone\ndone\nbytes ff\nrefused 8 STRAY\n") }

abbrev pub last_bytes : Row
last_bytes = record { file = codes "mesh 1\npages 16\nhistory 64\nworkers 1\nworker 0\nnew 0 2048 0\nget 0 2040 8\nget 0 2041 8\nplan\nrun 0\nrun 0\nrun 0\nend\n"; answer = Ok (codes "object 0 at 1000\nbytes 0000000000000000\nrefused 7 OUTSIDE\n") }

abbrev pub lengths_and_words : Row
lengths_and_words = record { file = codes "mesh 1\npages 16\nhistory 64\nworkers 1\nworker 0\nnew 0 0 0\nnew 0 2049 0\nnew 0 2048 7\nplan\nrun 0\nrun 0\nrun 0\nend\n"; answer = Ok (codes "refused 1 ZERO\nrefused 2 TOO_LARGE\nobject 0 at 1800\n") }

abbrev pub load_across_pages : Row
load_across_pages = record { file = codes "mesh 1\npages 16\nhistory 64\nworkers 1\nworker 0\nnew 0 1500 0\nnew 1 1500 0\nnew 2 1500 0\nnew 3 1500 0\nnew 4 1500 0\nnew 5 1500 0\nnew 6 1500 0\nnew 7 1500 0\nnew 8 1500 0\nnew 9 1500 0\nnew 10 1500 0\nput 10 1020 0102030405060708\nfree 2\nfree 8\nfree 9\nget 10 1020 8\nplan\nrun 0\nrun 0\nrun 0\nrun 0\nrun 0\nrun 0\nrun 0\nrun 0\nrun 0\nrun 0\nrun 0\nrun 0\nrun 0\nrun 0\nrun 0\nrun 0\nend\n"; answer = Ok (codes "object 0 at 1000\nobject 1 at 1600\nobject 2 at 1c00\nobject 3 at 2200\nobject 4 at 2800\nobject 5 at 2e00\nobject 6 at 3400\nobject 7 at 3a00\nobject 8 at 4000\nobject 9 at 4600\nobject 10 at 4c00\ndone\ndone\ndone\ndone\nbytes 0102030405060708\n") }

abbrev pub many_workers_and_no_history : Row
many_workers_and_no_history = record { file = codes "mesh 1\npages 1\nhistory 0\nworkers 64\nworker 0\naddr 0\nworker 1\nworker 2\nworker 3\nworker 4\nworker 5\nworker 6\nworker 7\nworker 8\nworker 9\nworker 10\nworker 11\nworker 12\nworker 13\nworker 14\nworker 15\nworker 16\nworker 17\nworker 18\nworker 19\nworker 20\nworker 21\nworker 22\nworker 23\nworker 24\nworker 25\nworker 26\nworker 27\nworker 28\nworker 29\nworker 30\nworker 31\nworker 32\nworker 33\nworker 34\nworker 35\nworker 36\nworker 37\nworker 38\nworker 39\nworker 40\nworker 41\nworker 42\nworker 43\nworker 44\nworker 45\nworker 46\nworker 47\nworker 48\nworker 49\nworker 50\nworker 51\nworker 52\nworker 53\nworker 54\nworker 55\nworker 56\nworker 57\nworker 58\nworker 59\nworker 60\nworker 61\nworker 62\nworker 63\nplan\nrun 0\nrun 63\nrun 0\nend\n"; answer = Ok (codes "history full\nover\nhistory full\n") }

abbrev pub one_page : Row
one_page = record { file = codes "mesh 1\npages 1\nhistory 64\nworkers 1\nworker 0\nnew 0 2048 0\nnew 1 2048 0\nnew 2 2048 0\nget 2 0 1\nplan\nrun 0\nrun 0\nrun 0\nrun 0\nend\n"; answer = Ok (codes "object 0 at 1000\nobject 1 at 1800\nrefused 3 NO_PAGES\nrefused 5 EMPTY\n") }

abbrev pub refusals_take_room_in_history : Row
refusals_take_room_in_history = record { file = codes "mesh 1\npages 1\nhistory 2\nworkers 2\nworker 0\nget 0 0 1\nfree 0\naddr 0\nworker 1\nplan\nrun 0\nrun 1\nrun 0\nrun 0\nrun 1\nrun 0\nend\n"; answer = Ok (codes "refused 5 EMPTY\nover\nrefused 5 EMPTY\nhistory full\nover\nhistory full\n") }

abbrev pub refused_commands_change_nothing : Row
refused_commands_change_nothing = record { file = codes "mesh 1\npages 16\nhistory 64\nworkers 1\nworker 0\nnew 0 1000 0\nnew 1 1024 0\nput 0 999 7e\npeek 13e7\npeek 13e8\npoke 13e8 01\npeek 13ff\nfree 1\nalias 0 1\nalias 0 2\naddr 0\nalias 5 1\nget 5 0 1\nnew 0 0 0\nnew 0 2049 0\nput 0 999 0102\nget 0 998 2\nnew 2 512 0\nplan\nrun 0\nrun 0\nrun 0\nrun 0\nrun 0\nrun 0\nrun 0\nrun 0\nrun 0\nrun 0\nrun 0\nrun 0\nrun 0\nrun 0\nrun 0\nrun 0\nrun 0\nrun 0\nend\n"; answer = Ok (codes "object 0 at 1000\nobject 1 at 1400\ndone\nbyte 7e\nrefused 8 STRAY\nrefused 8 STRAY\nrefused 8 STRAY\ndone\nrefused 6 FREED\nrefused 5 EMPTY\nat 1000\nrefused 6 FREED\nrefused 5 EMPTY\nrefused 1 ZERO\nrefused 2 TOO_LARGE\nrefused 7 OUTSIDE\nbytes 007e\nobject 2 at 2000\n") }

abbrev pub script_over : Row
script_over = record { file = codes "mesh 1\npages 16\nhistory 64\nworkers 1\nworker 0\nplan\nrun 0\nend\n"; answer = Ok (codes "over\n") }

abbrev pub stale_cells : Row
stale_cells = record { file = codes "mesh 1\npages 16\nhistory 64\nworkers 1\nworker 0\nnew 0 16 5\nalias 1 0\nfree 0\nfree 1\nget 2 0 1\nnew 3 16 5\nget 1 0 1\npoke 1050 7f\npeek 1050\npeek 1060\nplan\nrun 0\nrun 0\nrun 0\nrun 0\nrun 0\nrun 0\nrun 0\nrun 0\nrun 0\nrun 0\nend\n"; answer = Ok (codes "object 0 at 1050\ndone\ndone\nrefused 6 FREED\nrefused 5 EMPTY\nobject 1 at 1050\nrefused 6 FREED\ndone\nbyte 7f\nrefused 8 STRAY\n") }

abbrev pub store_across_pages : Row
store_across_pages = record { file = codes "mesh 1\npages 16\nhistory 64\nworkers 1\nworker 0\nnew 0 300 10\nput 0 252 aabbccddeeff0011\nget 0 252 8\nget 0 299 2\nplan\nrun 0\nrun 0\nrun 0\nrun 0\nend\n"; answer = Ok (codes "object 0 at 1f00\ndone\nbytes aabbccddeeff0011\nrefused 7 OUTSIDE\n") }

abbrev pub words_pick_free_slots : Row
words_pick_free_slots = record { file = codes "mesh 1\npages 16\nhistory 64\nworkers 1\nworker 0\nnew 0 1024 1\nnew 1 1024 4294967297\nnew 2 1024 18446744073709551615\nnew 3 1024 7\nnew 4 1024 18446744073709551613\nplan\nrun 0\nrun 0\nrun 0\nrun 0\nrun 0\nend\n"; answer = Ok (codes "object 0 at 1400\nobject 1 at 1c00\nobject 2 at 1800\nobject 3 at 1000\nobject 4 at 2400\n") }

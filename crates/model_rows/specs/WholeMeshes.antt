-- Worked examples: whole meshes. Written by tools/gen/rows.py from jobs/golden/whole_meshes.
use Rattle.std.specs.Prelude.{Ok, codes}
use Rattle.model_rows.specs.Rows.{Row}

abbrev pub bytes_of_three_pages : Row
bytes_of_three_pages = record { file = codes "mesh 1\npages 16\nhistory 64\nworkers 1\nworker 0\nnew 0 1500 0\nnew 1 1500 0\nnew 2 1500 0\nnew 3 1500 0\nnew 4 1500 0\nnew 5 1500 0\nnew 6 1500 0\nnew 7 1500 0\nnew 8 1500 2\nnew 9 1500 4\nput 0 0 01\nput 4 0 02\nput 7 1499 03\nput 8 1020 0102030405060708\nput 9 510 11121314\nfree 2\nfree 5\nget 8 1020 8\nget 9 510 4\nnew 10 2048 0\nnew 11 2048 0\nput 10 0 ff\nget 0 0 1\nget 4 0 1\nget 7 1499 1\nfree 8\nnew 8 1536 0\nget 8 1020 8\nplan\nrun 0\nrun 0\nrun 0\nrun 0\nrun 0\nrun 0\nrun 0\nrun 0\nrun 0\nrun 0\nrun 0\nrun 0\nrun 0\nrun 0\nrun 0\nrun 0\nrun 0\nwhole 1 0\nrun 0\nrun 0\nrun 0\nrun 0\nrun 0\nrun 0\nrun 0\nrun 0\nrun 0\nrun 0\nrun 0\nreport\nend\n"; answer = Ok (codes "object 0 at 1000\nobject 1 at 1600\nobject 2 at 1c00\nobject 3 at 2200\nobject 4 at 2800\nobject 5 at 2e00\nobject 6 at 3400\nobject 7 at 3a00\nobject 8 at 4c00\nobject 9 at 5e00\ndone\ndone\ndone\ndone\ndone\ndone\ndone\nmeshed 3\nbytes 0102030405060708\nbytes 11121314\nobject 10 at 7000\nobject 11 at 7800\ndone\nbytes 01\nbytes 02\nbytes 03\ndone\nobject 12 at 1c00\nbytes 0000000000000000\nreport objects 10 bytes 16132 mapped 7 taken 4 saved 3\n") }

abbrev pub classes_of_three_pages : Row
classes_of_three_pages = record { file = codes "mesh 1\npages 16\nhistory 64\nworkers 1\nworker 0\nnew 0 300 0\nnew 1 300 0\nnew 2 300 0\nnew 3 300 0\nnew 4 300 0\nnew 5 300 0\nnew 6 300 0\nnew 7 300 0\nnew 8 300 0\nnew 9 300 0\nnew 10 300 0\nnew 11 300 0\nnew 12 300 0\nnew 13 300 0\nnew 14 300 0\nnew 15 300 0\nnew 16 300 0\nnew 17 300 0\nnew 18 300 0\nnew 19 300 0\nnew 20 300 0\nnew 21 300 0\nnew 22 300 0\nnew 23 300 0\nnew 24 300 0\nnew 25 300 0\nnew 26 300 0\nnew 27 300 0\nnew 28 300 0\nnew 29 300 0\nnew 30 300 0\nnew 31 300 0\nnew 32 300 0\nnew 33 1536 0\nfree 0\nfree 33\naddr 32\nplan\nrun 0\nrun 0\nrun 0\nrun 0\nrun 0\nrun 0\nrun 0\nrun 0\nrun 0\nrun 0\nrun 0\nrun 0\nrun 0\nrun 0\nrun 0\nrun 0\nrun 0\nrun 0\nrun 0\nrun 0\nrun 0\nrun 0\nrun 0\nrun 0\nrun 0\nrun 0\nrun 0\nrun 0\nrun 0\nrun 0\nrun 0\nrun 0\nrun 0\nrun 0\nrun 0\nbegin 1 0\ncancel\nwhole 1 0\nreport\nrun 0\nsweep 2\nreport\nrun 0\nend\n"; answer = Ok (codes "object 0 at 1000\nobject 1 at 1180\nobject 2 at 1300\nobject 3 at 1480\nobject 4 at 1600\nobject 5 at 1780\nobject 6 at 1900\nobject 7 at 1a80\nobject 8 at 1c00\nobject 9 at 1d80\nobject 10 at 1f00\nobject 11 at 2080\nobject 12 at 2200\nobject 13 at 2380\nobject 14 at 2500\nobject 15 at 2680\nobject 16 at 2800\nobject 17 at 2980\nobject 18 at 2b00\nobject 19 at 2c80\nobject 20 at 2e00\nobject 21 at 2f80\nobject 22 at 3100\nobject 23 at 3280\nobject 24 at 3400\nobject 25 at 3580\nobject 26 at 3700\nobject 27 at 3880\nobject 28 at 3a00\nobject 29 at 3b80\nobject 30 at 3d00\nobject 31 at 3e80\nobject 32 at 4000\nobject 33 at 7000\ndone\nleft 44\nleft 0\nmeshed 3\nreport objects 33 bytes 11136 mapped 9 taken 6 saved 3\ndone\nswept 3\nreport objects 32 bytes 9600 mapped 6 taken 3 saved 3\nat 4000\n") }

abbrev pub eight_members : Row
eight_members = record { file = codes "mesh 1\npages 16\nhistory 64\nworkers 1\nworker 0\nnew 0 2048 0\nnew 1 2048 0\nnew 2 2048 0\nnew 3 2048 0\nnew 4 2048 0\nnew 5 2048 0\nnew 6 2048 0\nnew 7 2048 0\nnew 8 2048 0\nnew 9 2048 0\nnew 10 2048 0\nnew 11 2048 0\nnew 12 2048 0\nnew 13 2048 0\nnew 14 2048 0\nnew 15 2048 0\nnew 16 2048 0\nnew 17 2048 0\nfree 0\nfree 1\nfree 2\nfree 3\nfree 4\nfree 5\nfree 6\nfree 7\nfree 8\nfree 9\nfree 10\nfree 11\nfree 12\nfree 13\nfree 14\nfree 15\nfree 16\nfree 17\nplan\nrun 0\nrun 0\nrun 0\nrun 0\nrun 0\nrun 0\nrun 0\nrun 0\nrun 0\nrun 0\nrun 0\nrun 0\nrun 0\nrun 0\nrun 0\nrun 0\nrun 0\nrun 0\nrun 0\nrun 0\nrun 0\nrun 0\nrun 0\nrun 0\nrun 0\nrun 0\nrun 0\nrun 0\nrun 0\nrun 0\nrun 0\nrun 0\nrun 0\nrun 0\nrun 0\nrun 0\nwhole 1 0\nwhole 2 0\nwhole 3 0\nwhole 4 0\nwhole 5 0\nwhole 6 0\nwhole 7 0\nwhole 8 0\nsweep 0\nreport\nend\n"; answer = Ok (codes "object 0 at 1000\nobject 1 at 1800\nobject 2 at 2000\nobject 3 at 2800\nobject 4 at 3000\nobject 5 at 3800\nobject 6 at 4000\nobject 7 at 4800\nobject 8 at 5000\nobject 9 at 5800\nobject 10 at 6000\nobject 11 at 6800\nobject 12 at 7000\nobject 13 at 7800\nobject 14 at 8000\nobject 15 at 8800\nobject 16 at 9000\nobject 17 at 9800\ndone\ndone\ndone\ndone\ndone\ndone\ndone\ndone\ndone\ndone\ndone\ndone\ndone\ndone\ndone\ndone\ndone\ndone\nmeshed 1\nmeshed 1\nmeshed 1\nmeshed 1\nmeshed 1\nmeshed 1\nmeshed 1\nrefused 14 MEMBERS\nswept 1\nreport objects 0 bytes 0 mapped 1 taken 1 saved 0\n") }

abbrev pub four_on_one_page : Row
four_on_one_page = record { file = codes "mesh 1\npages 16\nhistory 64\nworkers 1\nworker 0\nnew 0 1024 0\nnew 1 1024 0\nnew 2 1024 0\nnew 3 1024 0\nnew 4 1024 0\nnew 5 1024 0\nnew 6 1024 0\nnew 7 1024 0\nnew 8 1024 0\nnew 9 1024 0\nnew 10 1024 0\nnew 11 1024 0\nnew 12 1024 0\nnew 13 1024 0\nnew 14 1024 0\nnew 15 1024 0\nfree 1\nfree 2\nfree 3\nfree 4\nfree 6\nfree 7\nfree 8\nfree 9\nfree 11\nfree 12\nfree 13\nfree 14\naddr 5\naddr 10\naddr 15\nfree 5\nnew 16 1024 0\nplan\nrun 0\nrun 0\nrun 0\nrun 0\nrun 0\nrun 0\nrun 0\nrun 0\nrun 0\nrun 0\nrun 0\nrun 0\nrun 0\nrun 0\nrun 0\nrun 0\nrun 0\nrun 0\nrun 0\nrun 0\nrun 0\nrun 0\nrun 0\nrun 0\nrun 0\nrun 0\nrun 0\nrun 0\nwhole 1 0\nwhole 3 2\nwhole 2 0\nreport\nrun 0\nrun 0\nrun 0\nrun 0\nrun 0\nend\n"; answer = Ok (codes "object 0 at 1000\nobject 1 at 1400\nobject 2 at 1800\nobject 3 at 1c00\nobject 4 at 2000\nobject 5 at 2400\nobject 6 at 2800\nobject 7 at 2c00\nobject 8 at 3000\nobject 9 at 3400\nobject 10 at 3800\nobject 11 at 3c00\nobject 12 at 4000\nobject 13 at 4400\nobject 14 at 4800\nobject 15 at 4c00\ndone\ndone\ndone\ndone\ndone\ndone\ndone\ndone\ndone\ndone\ndone\ndone\nmeshed 1\nmeshed 1\nmeshed 1\nreport objects 4 bytes 4096 mapped 4 taken 1 saved 3\nat 2400\nat 3800\nat 4c00\ndone\nobject 16 at 1400\n") }

abbrev pub overlap_before_members : Row
overlap_before_members = record { file = codes "mesh 1\npages 16\nhistory 64\nworkers 1\nworker 0\nnew 0 2048 0\nnew 1 2048 0\nnew 2 2048 0\nnew 3 2048 0\nnew 4 2048 0\nnew 5 2048 0\nnew 6 2048 0\nnew 7 2048 0\nnew 8 2048 0\nnew 9 2048 0\nnew 10 2048 0\nnew 11 2048 0\nnew 12 2048 0\nnew 13 2048 0\nnew 14 2048 0\nnew 15 2048 0\nnew 16 2048 0\nfree 1\nfree 2\nfree 3\nfree 4\nfree 5\nfree 6\nfree 7\nfree 8\nfree 9\nfree 10\nfree 11\nfree 12\nfree 13\nfree 14\nfree 15\nfree 16\nplan\nrun 0\nrun 0\nrun 0\nrun 0\nrun 0\nrun 0\nrun 0\nrun 0\nrun 0\nrun 0\nrun 0\nrun 0\nrun 0\nrun 0\nrun 0\nrun 0\nrun 0\nrun 0\nrun 0\nrun 0\nrun 0\nrun 0\nrun 0\nrun 0\nrun 0\nrun 0\nrun 0\nrun 0\nrun 0\nrun 0\nrun 0\nrun 0\nwhole 1 0\nwhole 2 0\nwhole 3 0\nwhole 4 0\nwhole 5 0\nwhole 6 0\nwhole 7 0\nwhole 8 0\nbegin 0 8\nrun 0\nbegin 0 8\nwhole 8 0\nend\n"; answer = Ok (codes "object 0 at 1000\nobject 1 at 1800\nobject 2 at 2000\nobject 3 at 2800\nobject 4 at 3000\nobject 5 at 3800\nobject 6 at 4000\nobject 7 at 4800\nobject 8 at 5000\nobject 9 at 5800\nobject 10 at 6000\nobject 11 at 6800\nobject 12 at 7000\nobject 13 at 7800\nobject 14 at 8000\nobject 15 at 8800\nobject 16 at 9000\ndone\ndone\ndone\ndone\ndone\ndone\ndone\ndone\ndone\ndone\ndone\ndone\ndone\ndone\ndone\nmeshed 1\nmeshed 1\nmeshed 1\nmeshed 1\nmeshed 1\nmeshed 1\nmeshed 1\nrefused 13 OVERLAP\nrefused 13 OVERLAP\ndone\nrefused 14 MEMBERS\nrefused 14 MEMBERS\n") }

abbrev pub refusals_of_whole : Row
refusals_of_whole = record { file = codes "mesh 1\npages 16\nhistory 64\nworkers 1\nworker 0\nnew 0 2048 0\nnew 1 2048 0\nnew 2 2048 0\nnew 3 2048 0\nplan\nrun 0\nrun 0\nrun 0\nrun 0\nwhole 1 0\nwhole 1 1\nwhole 1 9\nend\n"; answer = Ok (codes "object 0 at 1000\nobject 1 at 1800\nobject 2 at 2000\nobject 3 at 2800\nrefused 13 OVERLAP\nrefused 10 SAME\nrefused 9 NO_GROUP\n") }

abbrev pub report : Row
report = record { file = codes "mesh 1\npages 16\nhistory 64\nworkers 1\nworker 0\nnew 0 2048 0\nnew 1 2048 0\nnew 2 2048 0\nnew 3 2048 0\nfree 0\nfree 3\nplan\nrun 0\nrun 0\nrun 0\nrun 0\nrun 0\nrun 0\nreport\nwhole 1 0\nreport\nend\n"; answer = Ok (codes "object 0 at 1000\nobject 1 at 1800\nobject 2 at 2000\nobject 3 at 2800\ndone\ndone\nreport objects 2 bytes 4096 mapped 2 taken 2 saved 0\nmeshed 1\nreport objects 2 bytes 4096 mapped 2 taken 1 saved 1\n") }

abbrev pub room_by_meshing : Row
room_by_meshing = record { file = codes "mesh 1\npages 2\nhistory 64\nworkers 1\nworker 0\nnew 0 2048 0\nnew 1 2048 0\nnew 2 2048 0\nnew 3 2048 0\nfree 0\nfree 3\nnew 5 64 0\nnew 5 64 0\nplan\nrun 0\nrun 0\nrun 0\nrun 0\nrun 0\nrun 0\nrun 0\nwhole 1 0\nrun 0\nend\n"; answer = Ok (codes "object 0 at 1000\nobject 1 at 1800\nobject 2 at 2000\nobject 3 at 2800\ndone\ndone\nrefused 3 NO_PAGES\nmeshed 1\nobject 4 at 3000\n") }

abbrev pub sweep : Row
sweep = record { file = codes "mesh 1\npages 16\nhistory 64\nworkers 1\nworker 0\nnew 0 2048 0\nnew 1 2048 0\nnew 2 2048 0\nnew 3 2048 0\nfree 0\nfree 3\nfree 1\nget 1 0 1\npeek 1800\nnew 4 2048 0\nplan\nrun 0\nrun 0\nrun 0\nrun 0\nrun 0\nrun 0\nrun 0\nsweep 1\nsweep 0\nsweep 0\nrun 0\nrun 0\nrun 0\nend\n"; answer = Ok (codes "object 0 at 1000\nobject 1 at 1800\nobject 2 at 2000\nobject 3 at 2800\ndone\ndone\ndone\nrefused 17 NOT_EMPTY\nswept 1\nrefused 9 NO_GROUP\nrefused 6 FREED\nrefused 8 STRAY\nobject 4 at 2800\n") }

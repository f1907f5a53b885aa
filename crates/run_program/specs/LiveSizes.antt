-- The sizes of the session in the arguments of `live`.
use Rattle.run_live.specs.declared.sizes.Sizes.{Sizes}
use Rattle.run_command_line.specs.declared.live_args.LiveArgs.{LiveArgs}

-- the sizes of the session that `live` is asked for
abbrev pub session_sizes : LiveArgs → Sizes
session_sizes args = record { pages = args.pages; history = args.history; workers = args.workers }

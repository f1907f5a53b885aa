-- Whether a slow source has failed.
use Rattle.std.specs.Prelude.{Bool}
use Rattle.run_tests.specs.declared.memory.slow.SlowSource.{SlowSource}

-- whether the source was called when it had no call left
abbrev pub slow_has_failed : SlowSource → Bool
slow_has_failed source = source.failed

use Rattle.history_reading.proofs.CallLines.{effect_of_test, test_of_effect}
use Rattle.history_reading.proofs.laws.tests_tell_effects.Goals as goal

pub returns : goal.returns
returns c command reply = (effect_of_test command reply, test_of_effect command reply)

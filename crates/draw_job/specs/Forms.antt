-- The forms in which the text of points is written.
use Rattle.std.specs.Prelude.{ℕ, List, Option}
use Rattle.std.specs.Io.KnownBytes.{Keeps}
use Rattle.draw_html.specs.Pages.{escaped}
use Rattle.draw_job.specs.declared.forms.Form.{Form}
use Rattle.draw_job.specs.declared.forms.Form.TheVariants.{Plain, Escaped}
use Rattle.text_devices.specs.Transfer.{AppendsBeginning}
use Rattle.text_devices.specs.declared.faults.ReplayError.{ReplayError}
use Rattle.text_devices.specs.declared.faults.ReplayError.TheVariants.{Read, Write, Text, Memory}

-- a text in this form
abbrev pub formed : Form → List ℕ → List ℕ
formed Plain text = text
formed Escaped text = escaped text

-- what was written of these bytes before this error: nothing if an allocation failed, and a beginning of them if the
-- output failed. No other error is possible
abbrev pub HasStoppedIn : List ℕ → Option (List ℕ) → Option (List ℕ) → ReplayError → Type 0
HasStoppedIn bytes written written' Read = ⊥
HasStoppedIn bytes written written' Write = AppendsBeginning written written' bytes
HasStoppedIn bytes written written' (Text fault) = ⊥
HasStoppedIn bytes written written' Memory = Keeps written written'

-- Why calls are no history, or why no order explains them, as a text. The wording is this project's own choice.
use Rattle.std.specs.Prelude.{ℕ, ◌+◌, Bool, true, false, List, [], ◌∷◌, ◌++◌, codes}
use Rattle.std.specs.List.{flat_map}
use Rattle.arrayvec.specs.ArrayVec.{ArrayVec}
use Rattle.model_jobs.specs.Texts.{bytes_text, number_field}
use Rattle.model_words.specs.declared.refusals.Refusal.TheVariants.{Zero}
use Rattle.text_words.specs.declared.recorded.RecordedReply.{RecordedReply}
use Rattle.text_words.specs.declared.recorded.RecordedReply.TheVariants.{Refused}
use Rattle.text_words.specs.RecordedTexts.{recorded_text}
use Rattle.history_overlaps.specs.declared.flaws.Flaw.{Flaw}
use Rattle.history_overlaps.specs.declared.flaws.Flaw.TheVariants.{SerialAgain, NoByte, StrangeRefusal, Overlaps, NoOrder}
use Rattle.history_overlaps.specs.declared.misuses.Misuse.{Misuse}
use Rattle.history_overlaps.specs.declared.misuses.Misuse.TheVariants.{CellAgain, NotAfterNew, NotBeforeFree}
use Rattle.history_overlaps.specs.declared.objects.NewObject.{NewObject}
use Rattle.history_overlaps.specs.declared.possible.Loads.{Loads}
use Rattle.history_overlaps.specs.declared.possible.Possible.{Possible}
use Rattle.history_overlaps.specs.declared.possible.Possible.TheVariants.{Only, Loads as OneOf}

-- the text of the rule of use that a call breaks
abbrev pub misuse_text : Misuse → List ℕ
misuse_text CellAgain = codes "no history: cell again"
misuse_text NotAfterNew = codes "no history: not after its new"
misuse_text NotBeforeFree = codes "no history: not before its free"

-- the text of an answer that no order explains
abbrev pub answer_text : RecordedReply → List ℕ
answer_text answer = codes "no order explains " ++ recorded_text answer

-- the text of an answer to a `new` that no order explains, which the possible answer follows
abbrev pub unfair_text : RecordedReply → List ℕ
unfair_text answer = answer_text answer ++ codes "; possible: "

-- the text of a load's answer
abbrev pub load_text : ArrayVec ℕ → List ℕ
load_text load = codes "bytes " ++ bytes_text load.items

-- the text of a load's answer after another one
abbrev pub later_text : ArrayVec ℕ → List ℕ
later_text load = codes " | " ++ load_text load

-- the texts of loads' answers, with a bar between any two
abbrev pub least_text : List (ArrayVec ℕ) → List ℕ
least_text [] = []
least_text (load ∷ later) = load_text load ++ flat_map later_text later

-- a bar and two dots if there are more possible loads than are stored
abbrev pub rest_text : Bool → List ℕ
rest_text true = codes " | .."
rest_text false = []

-- the text of the possible answers of a load
abbrev pub loads_text : Loads → List ℕ
loads_text loads = least_text loads.least.items ++ rest_text loads.are_more

-- the text of what a call could have answered. The loads are those of a load that took effect behind all effects that
-- are settled
abbrev pub possible_text : Possible → List ℕ
possible_text (Only answer) = codes "; possible: " ++ recorded_text answer
possible_text (OneOf loads) = codes "; possible if it took effect last: " ++ loads_text loads

-- the text of the object of an access
abbrev pub object_text : NewObject → List ℕ
object_text object =
    codes " of object" ++ number_field object.serial ++ codes " in cell" ++ number_field object.cell ++ codes ", made at line" ++ number_field (object.number + 2)

-- the text of a flaw: why no order explains a history
abbrev pub flaw_text : Flaw → List ℕ
flaw_text SerialAgain = codes "serial again"
flaw_text (NoByte answer) = unfair_text answer ++ recorded_text (Refused Zero)
flaw_text (StrangeRefusal refusal) = unfair_text (Refused refusal) ++ codes "object"
flaw_text (Overlaps serial number) = codes "overlaps object" ++ number_field serial ++ codes ", made at line" ++ number_field (number + 2)
flaw_text (NoOrder unexplained) =
    answer_text unexplained.answer ++ (object_text unexplained.object ++ possible_text unexplained.possible)

use Rattle.std.proofs.Common.{◌≡◌, ℕ, refl}
use Rattle.model_words.specs.declared.commands.Command.TheVariants.{New}
use Rattle.model_words.specs.declared.refusals.Refusal.{Refusal}
use Rattle.model_intervals.specs.OverlappingCalls.{HasEffect}
use Rattle.text_words.specs.RecordedWords.{plain_reply}
use Rattle.text_words.specs.declared.recorded.RecordedReply.{RecordedReply}
use Rattle.text_words.specs.declared.recorded.RecordedReply.TheVariants.{Object, Done, Bytes, At, Byte, Refused}
use Rattle.history_overlaps.proofs.begins.new_pending.Goals as goal

-- a `new` has no other effect
no_effect : (cell len : ℕ) (reply : RecordedReply) → HasEffect (New cell len 0) (plain_reply reply)
    → ((serial address : ℕ) → reply ≡ Object serial address → ⊥) → ((refusal : Refusal) → reply ≡ Refused refusal → ⊥) → ⊥
no_effect cell len (Object serial address) effect no_object no_refusal = no_object serial address refl
no_effect cell len Done effect no_object no_refusal = effect
no_effect cell len (Bytes bytes) effect no_object no_refusal = effect
no_effect cell len (At address) effect no_object no_refusal = effect
no_effect cell len (Byte byte) effect no_object no_refusal = effect
no_effect cell len (Refused refusal) effect no_object no_refusal = no_refusal refusal refl

pub unreachable-requires : goal.unreachable-requires
unreachable-requires c = no_effect c.args.cell c.args.len c.args.reply.now (c.requires 0) c.in_default.not-Object c.in_default.not-Refused

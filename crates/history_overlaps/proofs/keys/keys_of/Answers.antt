use Rattle.std.proofs.Common.{ℕ, List, ◌++◌, [], ◌∷◌, Option, ap, arith, length, map, refl, slice_get, sym, ◌∙◌}
use Rattle.std.specs.Prelude.{option_map}
use Rattle.std.specs.List.{range_with_len}
use Rattle.std.proofs.lemmas.List.{map_push}
use Rattle.std.proofs.lemmas.List.Elements.{All-push, All-same}
use Rattle.std.proofs.lemmas.Option.{slice_get-map, slice_get_read}
use Rattle.history_reading.specs.CallWords.{plain_call}
use Rattle.history_reading.specs.declared.words.TimedCall.{TimedCall}
use Rattle.history_overlaps.specs.Keys.{IsKeyOf}
use Rattle.history_overlaps.specs.declared.keys.Key.{Key}
use Rattle.history_overlaps.proofs.InOrder.{range_more}
use Rattle.history_overlaps.proofs.keys.keys_of.Goals as goal

pub loop-number-preserved : goal.loop-number-preserved
loop-number-preserved c =
    let number = λ (key : Key). key.number in
    let calls = c.args.calls.now in
    let plain = map plain_call calls in
    let points = c.args.points.now in
    let i = c.loop-number.number in
    let call = c.index-calls-number.result in
    let key = c.key_of.result in
    let keys = c.loop-number.keys.items in
    let read = slice_get_read calls (length calls) i call refl (omega arith) c.index-calls-number.is in
    let one : IsKeyOf plain points key = record {
      call = plain_call call;
      there = ap (λ (n : ℕ). slice_get plain n) c.key_of.ensures.number ∙ slice_get-map plain_call calls i ∙ ap (λ (item : Option TimedCall). option_map plain_call item) read;
      ranked = c.key_of.ensures.ranked;
      pointed = λ point is. c.key_of.ensures.pointed point (ap (λ (n : ℕ). slice_get points n) (sym c.key_of.ensures.number) ∙ is);
    } in record {
      numbers = ap (λ (keys : List Key). map number keys) c.in_ok-push.ensures.items ∙ map_push number keys key
          ∙ ap (λ (numbers : List ℕ). numbers ++ key.number ∷ []) c.loop-number.invariant.numbers
          ∙ ap (λ (n : ℕ). range_with_len 0 i ++ n ∷ []) c.key_of.ensures.number ∙ sym (range_more i);
      own = All-same (IsKeyOf plain points) c.push.new.self.items (keys ++ key ∷ []) c.in_ok-push.ensures.items
          (All-push (IsKeyOf plain points) keys key c.loop-number.invariant.own one);
    }

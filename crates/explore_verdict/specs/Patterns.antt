-- Patterns of a worker's replies, and the outcomes that match them. This project's own choice.
use Rattle.std.specs.Prelude.{ℕ, ◌-◌, Bool, true, false, ◌&&◌, ◌||◌, if◌then◌else◌, nat_eq, nat_le, List, [], ◌∷◌, ◌++◌, Option, Some, None, option_map, Result, Ok, Err, codes, drop, length, slice_index_or, take, unwrap_or}
use Rattle.std.specs.List.{ends_with, list_all, slice_split, starts_with}
use Rattle.std.specs.Cmp.Lexicographic.{pointwise}
use Rattle.model_jobs.specs.JobFiles.{are_same, number_in}
use Rattle.model_jobs.specs.Texts.{reply_text}
use Rattle.model_words.specs.declared.commands.Reply.{Reply}
use Rattle.model_words.specs.declared.faults.FaultKind.{FaultKind}
use Rattle.explore_interleavings.specs.ExploreStates.{ExploreState}

-- a worker, and a piece for each of its replies. A piece is a reply's text between two spaces, or a beginning of it and
-- a star, as ` bytes * ` or ` * `
pub record Clause : Type 0 where
  pub worker : ℕ
  pub pieces : List (List ℕ)

-- a pattern: clauses that all hold of one outcome
pub record Wanted : Type 0 where
  pub clauses : List Clause

-- ---- which outcomes match

-- the piece of a reply: its text between two spaces
abbrev pub piece_of : Reply → List ℕ
piece_of reply = codes " " ++ reply_text reply ++ codes " "

-- whether the piece ends with a star, and the text begins as the piece does before the star
abbrev pub is_begun_by : List ℕ → List ℕ → Bool
is_begun_by piece text = ends_with nat_eq piece (codes "* ") && starts_with nat_eq text (take (length piece - 2) piece)

-- whether a reply matches a piece: the piece is the reply's text between two spaces, or a beginning of it and a star
abbrev pub is_met : List ℕ → Reply → Bool
is_met piece reply = are_same piece (piece_of reply) || is_begun_by piece (piece_of reply)

-- whether there are equally many pieces and replies, and each reply matches its piece
abbrev pub are_met : List (List ℕ) → List Reply → Bool
are_met [] [] = true
are_met [] (reply ∷ replies) = false
are_met (piece ∷ pieces) [] = false
are_met (piece ∷ pieces) (reply ∷ replies) = is_met piece reply && are_met pieces replies

-- whether the worker has the replies that the clause requires
abbrev pub is_clause_met : List (List Reply) → Clause → Bool
is_clause_met told clause = are_met clause.pieces (slice_index_or told clause.worker [])

-- whether the workers have the replies that the pattern requires
abbrev pub is_match : Wanted → List (List Reply) → Bool
is_match wanted told = list_all (is_clause_met told) wanted.clauses

-- the workers' replies in a state, if there is one
abbrev pub told_in : Option ExploreState → List (List Reply)
told_in None = []
told_in (Some s) = s.told

-- ---- how a clause is spelt: `W: ANSWER | ANSWER ..` or `worker W: ANSWER | ANSWER ..`

-- the text after `front`, or None if the text doesn't begin with `front`
abbrev pub behind : List ℕ → List ℕ → Option (List ℕ)
behind front text = if pointwise nat_eq (take (length front) text) front then Some (drop (length front) text) else None

-- whether this is at least one byte between two spaces
abbrev pub is_piece : List ℕ → Bool
is_piece piece = starts_with nat_eq piece (codes " ") && ends_with nat_eq piece (codes " ") && nat_le 3 (length piece)

-- the pieces of the answers, split at each `|`. The answers end with a space
abbrev pub pieces_of : List ℕ → List (List ℕ)
pieces_of answers = slice_split (λ b. nat_eq b 124) answers

abbrev pub of_pieces : ℕ → List (List ℕ) → Option Clause
of_pieces worker pieces = if list_all is_piece pieces then Some (record { worker = worker; pieces = pieces }) else None

abbrev pub of_number : Result ℕ FaultKind → List ℕ → Option Clause
of_number (Err fault) answers = None
of_number (Ok worker) answers = of_pieces worker (pieces_of (answers ++ codes " "))

-- the clause of a number and answers, with exactly one colon between them. The number is at most 63
abbrev pub of_sides : List (List ℕ) → Option Clause
of_sides [] = None
of_sides (number ∷ []) = None
of_sides (number ∷ answers ∷ []) = of_number (number_in 0 63 number) answers
of_sides (number ∷ answers ∷ more ∷ sides) = None

abbrev pub sides_of : List ℕ → Option Clause
sides_of text = of_sides (slice_split (λ b. nat_eq b 58) text)

-- the clause that a text spells, or None if it spells none. The word `worker` may be left out
abbrev pub clause_of : List ℕ → Option Clause
clause_of text = sides_of (unwrap_or (behind (codes "worker ") text) text)

-- ---- how a pattern is spelt: clauses with ` & ` between them

-- the text of a piece, without the spaces before and after it
abbrev pub inner : List ℕ → List ℕ
inner piece = take (length piece - 2) (drop 1 piece)

-- the clause between two spaces
abbrev pub clause_in : List ℕ → Option Clause
clause_in part = if is_piece part then clause_of (inner part) else None

-- one clause more
abbrev pub with_clause : Option Clause → Option (List Clause) → Option (List Clause)
with_clause None clauses = None
with_clause (Some clause) clauses = option_map (λ more. clause ∷ more) clauses

-- the clauses of these parts, or None if some part is none
abbrev pub clauses_of : List (List ℕ) → Option (List Clause)
clauses_of [] = Some []
clauses_of (part ∷ parts) = with_clause (clause_in part) (clauses_of parts)

-- the parts of a text, split at each `&`
abbrev pub parts_of : List ℕ → List (List ℕ)
parts_of text = slice_split (λ b. nat_eq b 38) text

-- the pattern of these clauses
abbrev pub pattern_with : List Clause → Wanted
pattern_with clauses = record { clauses = clauses }

-- the pattern of a text whose clauses are each between two spaces
abbrev pub of_parts : List ℕ → Option Wanted
of_parts text = option_map pattern_with (clauses_of (parts_of text))

-- the pattern that a text spells, or None if it spells none
abbrev pub pattern_of : List ℕ → Option Wanted
pattern_of text = of_parts (codes " " ++ text ++ codes " ")

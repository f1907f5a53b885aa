-- How commands, replies, entries and references are stored.
use Rattle.std.specs.Prelude.{ℕ, List, refl}
use Rattle.std.specs.Coded.{Coded, code_by, coded×, coded_list, coded_ℕ}
use Rattle.model_memory.specs.Codes.{command_back, command_numbers, command_of, reply_back, reply_numbers, reply_of}
use Rattle.model_memory.specs.Plain.{Entry}
use Rattle.model_words.specs.declared.commands.Command.{Command}
use Rattle.model_words.specs.declared.commands.Reply.{Reply}
use Rattle.mesh_steps.specs.declared.answers.Ref.{Ref}

-- a reference is stored as its serial and its address
abbrev pub ref_code : Coded Ref
ref_code = code_by (ℕ × ℕ) (coded× coded_ℕ coded_ℕ) (λ r. (r.serial, r.addr)) (λ p. record { serial = p.0; addr = p.1 }) (λ _. refl)

-- a command is stored as its numbers
abbrev pub command_code : Coded Command
command_code = code_by (List ℕ) (coded_list coded_ℕ) command_numbers command_of command_back

-- a reply is stored as its numbers
abbrev pub reply_code : Coded Reply
reply_code = code_by (List ℕ) (coded_list coded_ℕ) reply_numbers reply_of reply_back

-- an entry is stored as its worker, its command and its reply
abbrev pub entry_code : Coded Entry
entry_code = code_by (ℕ × (Command × Reply)) (coded× coded_ℕ (coded× command_code reply_code))
    (λ e. (e.worker, (e.command, e.reply))) (λ p. record { worker = p.0; command = p.1.0; reply = p.1.1 }) (λ _. refl)

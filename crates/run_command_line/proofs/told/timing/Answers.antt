use Rattle.std.proofs.Common.{◌∙◌, None, Some, option_map}
use Rattle.clap.specs.Words.{found_of}
use Rattle.run_command_line.proofs.TimingsRead.{frees_read, loads_read, stores_read}
use Rattle.run_command_line.proofs.told.timing.Goals as goal

pub returns-in_err-stores : goal.returns-in_err-stores
returns-in_err-stores c =
    c.from_residual.ensures
    ∙ stores_read (found_of c.args.matches.now) (option_map (λ text. text.now) c.get_str.result) None c.get_str.ensures c.in_err-stores.ensures

pub returns-in_err-loads : goal.returns-in_err-loads
returns-in_err-loads c =
    let found = found_of c.args.matches.now in
    c.from_residual-in_err-loads.ensures
    ∙ loads_read found c.in_ok-stores.stores (option_map (λ text. text.now) c.get_str-2.result) None c.get_str-2.ensures c.in_err-loads.ensures
    (stores_read found (option_map (λ text. text.now) c.get_str.result) (Some c.in_ok-stores.stores) c.get_str.ensures c.in_ok-stores.ensures)

pub returns-in_err-frees : goal.returns-in_err-frees
returns-in_err-frees c =
    let found = found_of c.args.matches.now in
    c.from_residual-in_err-frees.ensures
    ∙ frees_read found c.in_ok-stores.stores c.in_ok-loads.loads (option_map (λ text. text.now) c.get_str-3.result) None c.get_str-3.ensures c.in_err-frees.ensures
    (loads_read found c.in_ok-stores.stores (option_map (λ text. text.now) c.get_str-2.result) (Some c.in_ok-loads.loads) c.get_str-2.ensures c.in_ok-loads.ensures
    (stores_read found (option_map (λ text. text.now) c.get_str.result) (Some c.in_ok-stores.stores) c.get_str.ensures c.in_ok-stores.ensures))

pub returns : goal.returns
returns c =
    let found = found_of c.args.matches.now in
    frees_read found c.in_ok-stores.stores c.in_ok-loads.loads (option_map (λ text. text.now) c.get_str-3.result) (Some c.in_ok-frees.frees) c.get_str-3.ensures c.in_ok-frees.ensures
    (loads_read found c.in_ok-stores.stores (option_map (λ text. text.now) c.get_str-2.result) (Some c.in_ok-loads.loads) c.get_str-2.ensures c.in_ok-loads.ensures
    (stores_read found (option_map (λ text. text.now) c.get_str.result) (Some c.in_ok-stores.stores) c.get_str.ensures c.in_ok-stores.ensures))

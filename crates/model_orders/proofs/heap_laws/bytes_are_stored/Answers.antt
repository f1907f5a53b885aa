use Rattle.model_orders.proofs.PageStores.{byte_in_rows}
use Rattle.model_orders.proofs.heap_laws.bytes_are_stored.Goals as goal

pub returns : goal.returns
returns c = λ m memory x i j l offset byte is i-below j-below l-below offset-below writable live.
    byte_in_rows m memory x i j l offset byte is i-below j-below l-below offset-below writable live

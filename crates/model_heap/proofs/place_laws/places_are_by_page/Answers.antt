use Rattle.model_heap.proofs.AddressPlaces.{by_page}
use Rattle.model_heap.proofs.place_laws.places_are_by_page.Goals as goal

pub returns : goal.returns
returns c targets v offset within = by_page targets v offset within

pub mod ClassLemmas

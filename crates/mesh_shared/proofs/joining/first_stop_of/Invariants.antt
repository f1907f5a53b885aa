use Rattle.std.proofs.Common.{◌≡◌, ◌++◌, ◌∷◌, map, take}
use Rattle.mesh_shared.specs.Stops.{first_stop}
use Rattle.mesh_shared.proofs.joining.first_stop_of.Given as goal

abbrev pub invariant-loop-q : goal.invariant-loop-q
invariant-loop-q l = l.stop ≡ first_stop (l.fn.refused ∷ map (λ one. one.stop) (take l.q l.ends))

abbrev pub invariant-loop-w : goal.invariant-loop-w
invariant-loop-w l = l.stop ≡ first_stop (l.fn.refused ∷ map (λ one. one.stop) l.ends ++ map (λ one. one.stop) (take l.w l.served))

use Rattle.std.proofs.Common.{sym, refl}
use Rattle.mesh_page_heap.proofs.Shown.{member_below, member_shown}
use Rattle.mesh_page_heap.proofs.page_heap.PageHeap.member.Goals as goal

pub returns-in_err-span-clause-value : goal.returns-in_err-span-clause-value
returns-in_err-span-clause-value c = rw (← c.self.view_is, member_shown _ _ _ _ refl, ← c.in_err-span.ensures) c.from_residual.ensures

pub first_page-requires : goal.first_page-requires
first_page-requires c = member_below c.self.inside.spans c.args.n c.args.place c.in_ok-span.span _ c.sound.ensures refl (sym c.in_ok-span.ensures)

pub returns-clause-value : goal.returns-clause-value
returns-clause-value c = rw (← c.self.view_is, member_shown _ _ _ _ refl, ← c.in_ok-span.ensures, c.first_page.ensures.value) refl

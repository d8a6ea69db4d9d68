use Rattle.std.proofs.Common.{◌≡◌, ◌∙◌, ◌+◌, ◌*◌, refl, sym, ap}
use Rattle.hume_base.specs.declared.types.Ty.TheOpen.{Ty-F}
use Rattle.hume_base.specs.declared.types.Ty.TheVariants as shape
use Rattle.box_costs.specs.Building.{build_with}
use Rattle.space_costs.specs.inner.Standing.{counted}
use Rattle.space_costs.proofs.TypeForms.{build_form}
use Rattle.space_costs.proofs.builds.+builds.Goals as goal

pub build-returns-in-Vector : goal.build-returns-in-Vector
build-returns-in-Vector t c = λ named h.
    let n = c.in-Vector.count in
    let item = c.in-Vector.item in
    let one : c.build.result ≡ counted (build_with named item) = c.build.ensures named h ∙ ap (λ ty. counted (build_with named ty)) c.deref.ensures in
    let form = build_form named _ (Ty-F.Vector n item) (shape.rolls-Vector n item ∙ sym c.in-Vector.is) in
    c.sum-in-Vector-2.ensures (1 + n) (n * build_with named item) (c.sum-in-Vector.ensures 1 n refl c.counted-in-Vector.ensures) (c.product-items.ensures (build_with named item) one)
    ∙ ap counted (sym form)

use Rattle.std.proofs.Common.{◌≡◌, ◌∙◌, ℕ, ◌+◌, List, Some, map, slice_get, refl, sym, ap, subst}
use Rattle.std.proofs.lemmas.Option.{slice_get_read}
use Rattle.hume_base.specs.declared.types.ConDef.{ConDef}
use Rattle.hume_base.specs.Sizes.{greatest}
use Rattle.box_costs.specs.Building.{build_with, build_of_con, build_of_sum, named_build}
use Rattle.space_costs.specs.inner.Standing.{AreBuildsOf, counted}
use Rattle.space_costs.proofs.TypeBuilds.{AreBuildsBelow, no_builds, next_build}
use Rattle.space_costs.proofs.builds.builds.Goals as goal

pub loop-data_type-init : goal.loop-data_type-init
loop-data_type-init c = subst (λ (builds : List ℕ). AreBuildsBelow c.args.types.now 0 builds) (sym c.new-builds.ensures) (no_builds c.args.types.now)

pub loop-data_type-preserved : goal.loop-data_type-preserved
loop-data_type-preserved c =
    let types = c.args.types.now in
    let data_type = c.data_type-item.result in
    let k = c.loop-data_type.data_type-index in
    let here : slice_get c.as_slice-data_type-items.result.now k ≡ Some data_type = slice_get_read _ _ k data_type refl c.loop-data_type-test.true c.data_type-item.is in
    let found : slice_get types.sums k ≡ Some data_type = rw c.as_slice-data_type-items.ensures at here in
    let below : AreBuildsOf c.as_slice.result.now (named_build types k) = subst (λ (builds : List ℕ). AreBuildsOf builds (named_build types k)) (sym c.as_slice.ensures) c.loop-data_type.invariant.each in
    let is : c.dearest_build.result ≡ counted (build_of_sum (build_with (named_build types k)) (Some data_type)) =
    c.dearest_build.ensures (named_build types k) below ∙ ap (λ (cons : List ConDef). counted (greatest (map (build_of_con (build_with (named_build types k))) cons))) c.as_slice-in-loop-data_type.ensures in
    subst (λ (builds : List ℕ). AreBuildsBelow types (k + 1) builds) (sym c.in_ok-push.ensures.ok) (next_build types k c.loop-data_type.builds data_type c.dearest_build.result c.loop-data_type.invariant found is)

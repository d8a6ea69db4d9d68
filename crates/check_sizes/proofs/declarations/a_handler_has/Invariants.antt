use Rattle.std.proofs.Common.{◌≡◌, drop}
use Rattle.std.specs.List.{list_any, flat_map}
use Rattle.check_rules.specs.SizeRules.{written_in}
use Rattle.check_typing.specs.Declarations.{WrittenHandler}
use Rattle.check_sizes.specs.inner.Large.{is_large}
use Rattle.check_sizes.proofs.declarations.a_handler_has.Given as goal

abbrev pub invariant-loop-handler : goal.invariant-loop-handler
invariant-loop-handler l =
    let some = list_any (is_large l.table.types l.sizes) in
    some (flat_map (λ (handler : WrittenHandler). written_in handler.2) (drop l.handler-index l.handlers)) ≡ some (flat_map (λ (handler : WrittenHandler). written_in handler.2) l.handlers)

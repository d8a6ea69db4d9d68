use Rattle.std.proofs.Common.{◌≡◌, map, take}
use Rattle.hume_base.specs.Sizes.{written_size, size_of}
use Rattle.hume_model.specs.BoxTyping.{port_types}
use Rattle.box_step.proofs.compiled.output_sizes.Given as goal

abbrev pub invariant-loop-port : goal.invariant-loop-port
invariant-loop-port l = l.sizes.items ≡ map (λ ty. written_size (size_of l.types ty)) (port_types (take l.port-index l.outs))

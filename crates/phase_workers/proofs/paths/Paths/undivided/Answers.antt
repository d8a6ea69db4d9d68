use Rattle.std.proofs.Common.{◌≤◌, ◌+◌, refl, arith}
use Rattle.hume_base.specs.declared.limits.TheConstants.{MAX_INPUTS, MAX_OUTPUTS}
use Rattle.model_bare.specs.Bare.{bare_of}
use Rattle.phase_workers.proofs.paths.Paths.undivided.Goals as goal

inputs_fit : MAX_INPUTS ≤ MAX_INPUTS + MAX_OUTPUTS
inputs_fit = omega arith

outputs_fit : MAX_OUTPUTS ≤ MAX_INPUTS + MAX_OUTPUTS
outputs_fit = omega arith

pub returns : goal.returns
returns c = record {
  sides_are = c.in_ok-sides.ensures (bare_of c.args.core.now) (MAX_INPUTS + MAX_OUTPUTS) refl inputs_fit outputs_fit;
  divided = tt;
}

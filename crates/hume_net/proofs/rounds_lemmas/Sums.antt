-- Supersteps one after the other.
use Rattle.std.proofs.Common.{◌≡◌, ℕ, zero, suc, ◌+◌, ap, ◌∙◌, arith}
use Rattle.hume_model.specs.declared.core_tree.Core.{Core}
use Rattle.hume_net.specs.declared.state.State.{State}
use Rattle.hume_net.specs.Lockstep.{superstep, lockstep}

pub lockstep_sum : (core : Core) (state : State) (first more : ℕ) → lockstep core state (first + more) ≡ lockstep core (lockstep core state first) more
unfolding lockstep
lockstep_sum core state first zero = (let e : first + 0 ≡ first = omega arith in ap (lockstep core state) e)
lockstep_sum core state first (suc more) =
    let e : first + suc more ≡ suc (first + more) = omega arith in
    ap (lockstep core state) e ∙ ap (superstep core) (lockstep_sum core state first more)

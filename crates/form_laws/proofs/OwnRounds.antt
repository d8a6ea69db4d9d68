-- A union is blocked first where one of its programs is, and tells its bad line.
use Rattle.std.proofs.Common.{◌≡◌, ℕ, zero, suc, ◌+◌, ◌-◌, ◌<◌, ◌≤◌, ◌&&◌, nat_lt, Bool, true, false, List, [], ◌∷◌, if◌then◌else◌, length, map, sum, take, Option, Some, None, slice_get, refl, ap, sym, ◌∙◌, arith, inl, inr}
use Rattle.std.specs.List.{All}
use Rattle.std.specs.Option.{is_some, unwrap_or}
use Rattle.std.proofs.lemmas.Bool.{cases_lt, le-ltb, lt-ltb, true≢false}
use Rattle.std.proofs.lemmas.List.Sums.{sum_by-cons}
use Rattle.hume_model.specs.declared.core_tree.NodeC.{NodeC}
use Rattle.hume_model.specs.declared.core_tree.NodeC.TheVariants.{From, Rules, To}
use Rattle.hume_model.specs.declared.core_tree.Core.{Core}
use Rattle.hume_model.specs.WellFormed.{IsWellFormed}
use Rattle.hume_net.specs.declared.state.Part.{Part}
use Rattle.hume_net.specs.rounds.Blocked.{blocking, blocks}
use Rattle.hume_net.specs.rounds.Rounds.{begins, length_of, rounds_of}
use Rattle.run_rounds.specs.Inputs.{Inputs, is_bad}
use Rattle.run_rounds.specs.Members.{MemberView, member_bad_line, member_bad_writes, members_before, members_until, members_writes}
use Rattle.run_rounds.specs.Streams.{std_out}
use Rattle.run_rounds.specs.Writes.{bad_value_line, bad_value_writes, blocked_by, blocked_round, name_of, span_of}
use Rattle.union_laws.specs.declared.moves.Moves.{Moves}
use Rattle.union_laws.specs.Moving.{moved_node}
use Rattle.union_laws.specs.Shares.{nodes_before}
use Rattle.union_laws.specs.Union.{behind, no_program, united_all}
use Rattle.union_laws.proofs.MovedCalls.{there_is}
use Rattle.form_laws.specs.Unions.{IsLeastOf, own_inputs}
use Rattle.form_laws.proofs.Found.{finds_first, finds_none, first_found, is_there, none_found}
use Rattle.form_laws.proofs.OwnInputs.{all_alone, own_bad, stands}
use Rattle.form_laws.proofs.OwnParts.{Belongs, earlier_nodes, long_union, nodes_in, nodes_within, own_first_parts, own_parts, owner}

-- the first round in which a program is blocked by its share of what comes to the union
abbrev pub own_blocked : List Core → ℕ → Core → Inputs → ℕ → ℕ → Option ℕ
own_blocked programs place program coming span steps = blocked_round program (own_inputs programs place program coming) span steps

-- some program is first blocked in that round
abbrev pub BlocksProgram : List Core → Inputs → ℕ → ℕ → ℕ → Type 0
BlocksProgram programs coming span steps round =
    (place : ℕ) × (program : Core) × (slice_get programs place ≡ Some program) × (own_blocked programs place program coming span steps ≡ Some round)

-- the bad line of a blocked round, by the programs' shares
pub record TellsOwn (programs : List Core) (members : List MemberView) (coming : Inputs) (traced : Bool) (steps round : ℕ) : Type 0 where
  pub place : ℕ
  pub program : Core
  pub there : slice_get programs place ≡ Some program
  pub blocked : own_blocked programs place program coming (span_of traced) steps ≡ Some round
  pub first : (other : ℕ) (earlier : Core) → other < place → slice_get programs other ≡ Some earlier
      → own_blocked programs other earlier coming (span_of traced) steps ≡ Some round → ⊥
  pub name : List ℕ
  pub line : ℕ
  pub tells : bad_value_writes program (own_inputs programs place program coming)
      (blocked_by program (own_inputs programs place program coming) traced steps round)
      ≡ (std_out, bad_value_line name line) ∷ []
  pub told : members_writes (united_all programs) members coming traced steps ≡ (std_out, member_bad_line (suc place) name line) ∷ []

-- whether a stream blocks a round, by its bad line and what was to come at first and is to come when the round begins
abbrev blocks_with : ℕ → Option ℕ → Part → Part → Bool
blocks_with more bad first now =
    is_some bad && nat_lt (length first.coming) (length (take (length first.coming - length now.coming) first.coming) + more)

module _ (programs : List Core) (formed : All IsWellFormed programs) (coming : Inputs) (span steps : ℕ) where
  abbrev union : Core
  union = united_all programs

  -- whether a round is blocked
  abbrev is_blocked : Core → Inputs → ℕ → Bool
  is_blocked core inputs round = is_some (blocking core inputs.good (is_bad inputs) span steps round)

  module _ (place : ℕ) (program : Core) (found : slice_get programs place ≡ Some program) where
    abbrev own : Inputs
    own = own_inputs programs place program coming

    -- a stream blocks a round of a union where it blocks one of its program
    pub blocks_alike : (round n : ℕ) → n < length program.nodes
        → blocks union coming.good (is_bad coming) span steps round (nodes_before programs place + n) ≡ blocks program own.good (is_bad own) span steps round n
    blocks_alike round n within = λ i. blocks_with (length_of span steps round) (sym (own_bad programs formed place program found coming n within) i)
        (own_first_parts programs (all_alone programs formed) place program found coming n within i)
        (own_parts programs (all_alone programs formed) place program found coming (begins span round) n within i)

    -- no stream of the program blocks a round in which no node before a number does, where all of its nodes come before
    free_before : (round bound : ℕ) → nodes_before programs place + length program.nodes ≤ bound
        → ((n : ℕ) → n < bound → blocks union coming.good (is_bad coming) span steps round n ≡ false)
        → blocking program own.good (is_bad own) span steps round ≡ None
    free_before round bound all free = finds_none (blocks program own.good (is_bad own) span steps round) 0 (length program.nodes)
        (λ n low high. let within : n < length program.nodes = omega (arith, high) in
        sym (blocks_alike round n within) ∙ free (nodes_before programs place + n) (omega (arith, within, all)))

    pub free_program : (round : ℕ) → is_blocked union coming round ≡ false → is_blocked program own round ≡ false
    free_program round free = by (blocking union coming.good (is_bad coming) span steps round) refl
      where
        by : (o : Option ℕ) → blocking union coming.good (is_bad coming) span steps round ≡ o → is_blocked program own round ≡ false
        by None none = ap is_some (free_before round (length union.nodes) (nodes_within no_program programs place program found)
            (λ n within. none_found (blocks union coming.good (is_bad coming) span steps round) 0 (length union.nodes) none n (omega arith)
            (omega (arith, within))))
        by (Some k) some = absurd (true≢false (sym (ap is_some some) ∙ free))

    -- the first blocked round of the program, by rounds in which the union isn't blocked
    pub first_here : (round : ℕ) → 1 ≤ round → round < 1 + rounds_of span steps → is_blocked program own round ≡ true
        → ((other : ℕ) → 1 ≤ other → other < round → is_blocked union coming other ≡ false)
        → own_blocked programs place program coming span steps ≡ Some round
    first_here round low high here before = finds_first (is_blocked program own) 1 (rounds_of span steps) round (record {
      least = low;
      most = high;
      passes = here;
      before = λ other least less. free_program other (before other least less);
    })

  -- the stream that blocks a round of a union blocks that round of its program, and no earlier program is blocked in it
  pub record BlocksOwn (round k : ℕ) : Type 0 where
    pub its : Belongs no_program programs k
    pub blocks : blocking its.program (own_inputs programs its.place its.program coming).good
        (is_bad (own_inputs programs its.place its.program coming)) span steps round
        ≡ Some its.node
    pub free : (other : ℕ) (earlier : Core) → other < its.place → slice_get programs other ≡ Some earlier
        → blocking earlier (own_inputs programs other earlier coming).good (is_bad (own_inputs programs other earlier coming)) span steps round ≡ None

  pub blocks_own : (round k : ℕ) → blocking union coming.good (is_bad coming) span steps round ≡ Some k → BlocksOwn round k
  blocks_own round k is =
      let first = first_found (blocks union coming.good (is_bad coming) span steps round) 0 (length union.nodes) k is in
      let its = owner programs k (let most = first.most in omega (arith, most)) in
      let own : Inputs = own_inputs programs its.place its.program coming in
      let at = its.at in
      record {
        its = its;
        blocks = finds_first (blocks its.program own.good (is_bad own) span steps round) 0 (length its.program.nodes) its.node (record {
          least = omega arith;
          most = (let within = its.within in omega (arith, within));
          passes = sym (blocks_alike its.place its.program its.there round its.node its.within)
              ∙ ap (blocks union coming.good (is_bad coming) span steps round) (sym at) ∙ first.passes;
          before = λ other low less. (let within = its.within in
              sym (blocks_alike its.place its.program its.there round other (omega (arith, within, less)))
              ∙ first.before (nodes_before programs its.place + other) (omega arith) (omega (arith, at, less)));
        });
        free = λ other earlier less there. (
            let before = earlier_nodes no_program programs other its.place earlier less there in
            free_before other earlier there round k (omega (arith, before, at)) (λ n within. first.before n (omega arith) within));
      }

  some_program : (round : ℕ) → is_blocked union coming round ≡ true
      → (place : ℕ) × (program : Core) × (slice_get programs place ≡ Some program)
      × (is_blocked program (own_inputs programs place program coming) round ≡ true)
  some_program round blocked =
      let by = is_there (blocking union coming.good (is_bad coming) span steps round) blocked in
      let own = blocks_own round by.0 by.1 in
      (own.its.place, own.its.program, own.its.there, ap is_some own.blocks)

  -- the first blocked round of a union is the first in which one of its programs is blocked
  pub first_of_programs : IsLeastOf (BlocksProgram programs coming span steps) (blocked_round union coming span steps)
  first_of_programs = by (blocked_round union coming span steps) refl
    where
      by : (o : Option ℕ) → blocked_round union coming span steps ≡ o → IsLeastOf (BlocksProgram programs coming span steps) o
      by None none = λ n holds.
          let own : Inputs = own_inputs programs holds.0 holds.1 coming in
          let first = first_found (is_blocked holds.1 own) 1 (rounds_of span steps) n holds.3 in
          true≢false (sym first.passes ∙ free_program holds.0 holds.1 holds.2 n
          (none_found (is_blocked union coming) 1 (rounds_of span steps) none n first.least first.most))
      by (Some round) some =
          let first = first_found (is_blocked union coming) 1 (rounds_of span steps) round some in
          let program = some_program round first.passes in (
            (program.0, program.1, program.2, first_here program.0 program.1 program.2 round first.least first.most program.3 first.before),
            λ other holds. elim (cases_lt other round) [
              | inl less ↦ (
                  let own : Inputs = own_inputs programs holds.0 holds.1 coming in
                  let its = first_found (is_blocked holds.1 own) 1 (rounds_of span steps) other holds.3 in
                  absurd (true≢false (sym its.passes ∙ free_program holds.0 holds.1 holds.2 other (first.before other its.least less))))
              | inr more ↦ more
            ],
          )

-- the bad line

members_found : (members : List MemberView) (programs : List Core) → map (λ (member : MemberView). member.nodes) members ≡ map nodes_in programs
    → (place node : ℕ) (program : Core) → slice_get programs place ≡ Some program → node < length program.nodes
    → (k : ℕ) → k ≡ sum (map nodes_in (take place programs)) + node → members_before members k ≡ place
members_found members [] same place node program found within k at = cc
members_found [] (x ∷ xs) same place node program found within k at = cc
members_found (member ∷ members) (x ∷ xs) same zero node program found within k at =
    let is : x ≡ program = cc in
    let many : length x.nodes ≡ length program.nodes = ap nodes_in is in
    let count : member.nodes ≡ length x.nodes = cc in
    let less : nat_lt k member.nodes ≡ true = lt-ltb k member.nodes (omega (arith, at, many, count, within)) in
    ap (λ b. if b then 0 else suc (members_before members (k - member.nodes))) less
members_found (member ∷ members) (x ∷ xs) same (suc place) node program found within k at =
    let count : member.nodes ≡ length x.nodes = cc in
    let others : map (λ (member : MemberView). member.nodes) members ≡ map nodes_in xs = cc in
    let first = sum_by-cons (λ (n : ℕ). n) (nodes_in x) (map nodes_in (take place xs)) in
    let not_less : nat_lt k member.nodes ≡ false = le-ltb k member.nodes (omega (arith, at, count, first)) in
    ap (λ b. if b then 0 else suc (members_before members (k - member.nodes))) not_less
    ∙ ap suc (members_found members xs others place node program found within (k - member.nodes) (omega (arith, at, count, first)))

same_name : (moves : Moves) (node : NodeC) → name_of (Some (moved_node moves node)) ≡ name_of (Some node)
same_name moves (Rules b) = refl
same_name moves (From stream) = refl
same_name moves (To stream) = refl

module _ (programs : List Core) (formed : All IsWellFormed programs) (members : List MemberView)
    (same : map (λ (member : MemberView). member.nodes) members ≡ map nodes_in programs) (coming : Inputs) (traced : Bool) (steps : ℕ) where
  abbrev whole : Core
  whole = united_all programs

  module _ (place node : ℕ) (program : Core) (found : slice_get programs place ≡ Some program) (within : node < length program.nodes) where
    number : members_before members (nodes_before programs place + node) ≡ place
    number =
        let long = long_union no_program (take place programs) in
        let at : nodes_before programs place + node ≡ sum (map nodes_in (take place programs)) + node = omega (arith, long) in
        members_found members programs same place node program found within (nodes_before programs place + node) at

    name_alike : name_of (slice_get whole.nodes (nodes_before programs place + node)) ≡ name_of (slice_get program.nodes node)
    name_alike =
        let at = there_is program.nodes node within in
        ap name_of ((stands programs formed place program found coming).nodes node at.0 at.1) ∙ same_name (behind (united_all (take place programs))) at.0
        ∙ ap name_of (sym at.1)

    told_alike : member_bad_writes whole members coming (Some (nodes_before programs place + node))
        ≡ (
          std_out,
          member_bad_line (suc place) (name_of (slice_get program.nodes node))
              (unwrap_or ((own_inputs programs place program coming).bad node) 0),
        ) ∷ []
    told_alike = λ i. (
      std_out,
      member_bad_line (suc (number i)) (name_alike i)
          (unwrap_or (sym (own_bad programs formed place program found coming node within) i) 0),
    ) ∷ []

  pub tells_bad_line : (round : ℕ) → blocked_round whole coming (span_of traced) steps ≡ Some round
      → TellsOwn programs members coming traced steps round
  tells_bad_line round is =
      let span : ℕ = span_of traced in
      let first = first_found (is_blocked programs formed coming span steps whole coming) 1 (rounds_of span steps) round is in
      let by = is_there (blocked_by whole coming traced steps round) first.passes in
      let own = blocks_own programs formed coming span steps round by.0 by.1 in
      let its = own.its in
      let inputs : Inputs = own_inputs programs its.place its.program coming in
      record {
        place = its.place;
        program = its.program;
        there = its.there;
        blocked = first_here programs formed coming span steps its.place its.program its.there round first.least first.most
            (ap is_some own.blocks) first.before;
        first = λ other earlier less there blocked. (
            let others : Inputs = own_inputs programs other earlier coming in
            let there_first = first_found (is_blocked programs formed coming span steps earlier others) 1 (rounds_of span steps) round blocked in
            true≢false (sym there_first.passes ∙ ap is_some (own.free other earlier less there)));
        name = name_of (slice_get its.program.nodes its.node);
        line = unwrap_or (inputs.bad its.node) 0;
        tells = ap (bad_value_writes its.program inputs) own.blocks;
        told = ap (members_until whole members coming traced steps) is
            ∙ ap (member_bad_writes whole members coming) (by.1 ∙ ap Some its.at)
            ∙ told_alike its.place its.node its.program its.there its.within;
      }

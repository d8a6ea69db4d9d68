-- A union owes one thing.
use Rattle.std.proofs.Common.{◌≡◌, ◌⊎◌, ℕ, ◌+◌, ◌≤◌, List, [], ◌∷◌, ◌++◌, map, sum, length, Option, None, Some, inl, inr, refl, sym, ap, ◌∙◌, subst, arith}
use Rattle.std.specs.List.{filter_map}
use Rattle.hume_base.specs.Least.{IsLeast}
use Rattle.hume_base.specs.declared.finding.Finding.{Finding}
use Rattle.hume_base.specs.declared.rule.Refusal.{Refusal}
use Rattle.hume_base.specs.declared.rule.Rule.TheVariants.{C55, C56, C57}
use Rattle.hume_base.specs.declared.limits.TheConstants.{MAX_EXCEPTIONS, MAX_FUNCTIONS, MAX_NODES, MAX_WIRES, MAX_WIRE_WORDS}
use Rattle.hume_model.specs.Limits.{wire_words}
use Rattle.hume_model.specs.declared.core_tree.Core.{Core}
use Rattle.box_costs.specs.CostRules.{BreaksCosts}
use Rattle.std.proofs.lemmas.Bool.{cases_lt}
use Rattle.hume_front.specs.declared.acceptance.Accepted.{Accepted}
use Rattle.hume_front.proofs.LeastCoreRules.{least_cost}
use Rattle.hume_front.proofs.OneRefusal.{one_refusal, accepted_unbroken}
use Rattle.hume_front.proofs.SomeAnswer as front
use Rattle.run_rounds.specs.Members.{MemberView}
use Rattle.run_rounds.specs.Streams.{streams, ports_of}
use Rattle.trace_print.specs.table.Table.{box_line, total_line_of}
use Rattle.union_laws.specs.Room.{HasRoom}
use Rattle.union_laws.specs.Union.{followed_by, united}
use Rattle.union_front.specs.Unions.{IsInLimits, IsSound, PassesAt, StaysWithin, core_of, first_of, others_of}
use Rattle.union_front.proofs.Sound.{accepted_sound, sound_runs, union_sound}
use Rattle.phase_workers.specs.Runnable.{IsRunnable}
use Rattle.hume_calls.specs.Streams.{unfit_line}
use Rattle.hume_calls.specs.declared.program_refusal.ProgramRefusal.{ProgramRefusal}
use Rattle.hume_calls.specs.Unions.{AreAccepted, BreaksFirst, IsUnionRefusal, MayUnite, broken, unfit, shared, over, line_or, program_line, program_members, program_tables, shared_program, taken_line, unfit_program, union_core, union_table}
use Rattle.hume_calls.proofs.Programs.{cores_same}

-- parts of a refusal

same_parts : (r s : ProgramRefusal) → r.program ≡ s.program → r.refusal ≡ s.refusal → r ≡ s
same_parts r s program refusal =
    let parts : ℕ → Refusal → ProgramRefusal = λ n x. record { program = n; refusal = x } in
    ap (λ (n : ℕ). parts n r.refusal) program ∙ ap (parts s.program) refusal

-- the first broken one

one_breaks : (texts : List (List ℕ)) (from : ℕ) (r s : ProgramRefusal) → BreaksFirst texts from r → BreaksFirst texts from s → r ≡ s
one_breaks [] from r s x y = absurd x
one_breaks (text ∷ texts) from r s (inl x) (inl y) = same_parts r s (x.0 ∙ sym y.0) (one_refusal text r.refusal s.refusal x.1 y.1)
one_breaks (text ∷ texts) from r s (inl x) (inr y) = absurd (accepted_unbroken text y.0.0 r.refusal y.0.1 x.1)
one_breaks (text ∷ texts) from r s (inr x) (inl y) = absurd (accepted_unbroken text x.0.0 s.refusal x.0.1 y.1)
one_breaks (text ∷ texts) from r s (inr x) (inr y) = one_breaks texts (from + 1) r s x.1 y.1

none_breaks : (texts : List (List ℕ)) (programs : List Accepted) → AreAccepted texts programs → (from : ℕ) (r : ProgramRefusal) → BreaksFirst texts from r → ⊥
none_breaks [] programs are from r x = absurd x
none_breaks (text ∷ texts) [] are from r x = absurd are
none_breaks (text ∷ texts) (program ∷ programs) are from r (inl x) = accepted_unbroken text program r.refusal are.0 x.1
none_breaks (text ∷ texts) (program ∷ programs) are from r (inr x) = none_breaks texts programs are.1 (from + 1) r x.1

-- limits

one_passes : (core : Core) (later : List Core) (from a b : ℕ) → PassesAt core later from a → PassesAt core later from b → a ≡ b
one_passes core [] from a b x y = absurd x
one_passes core (next ∷ later) from a b (inl x) (inl y) = x.0 ∙ sym y.0
one_passes core (next ∷ later) from a b (inl x) (inr y) = absurd (x.1 y.0)
one_passes core (next ∷ later) from a b (inr x) (inl y) = absurd (y.1 x.0)
one_passes core (next ∷ later) from a b (inr x) (inr y) = one_passes (united core next) later (from + 1) a b x.1 y.1

none_passes : (core : Core) (later : List Core) (from place : ℕ) → StaysWithin core later → PassesAt core later from place → ⊥
none_passes core [] from place stays x = absurd x
none_passes core (next ∷ later) from place stays (inl x) = x.1 stays.0
none_passes core (next ∷ later) from place stays (inr x) = none_passes (united core next) later (from + 1) place stays.1 x.1

-- it holds, or it doesn't
abbrev Decided : Type 0 → Type 0
Decided P = P ⊎ (P → ⊥)

decided_as : {P Q : Type 0} → (P → Q) → (Q → P) → Decided P → Decided Q
decided_as to from d = elim d [ inl p ↦ inl (to p) | inr none ↦ inr (λ q. none (from q)) ]

decided_both : {P Q : Type 0} → Decided P → Decided Q → Decided (P × Q)
decided_both d e = elim d [
  | inl p ↦ elim e [ inl q ↦ inl (p, q) | inr none ↦ inr (λ h. none h.1) ]
  | inr none ↦ inr (λ h. none h.0)
]

decided_le : (a b : ℕ) → Decided (a ≤ b)
decided_le a b = elim (cases_lt b a) [ inl lt ↦ inr (λ le. omega arith) | inr le ↦ inl le ]

in_room : (core : Core) → Decided (HasRoom core)
in_room core = decided_as (λ h. record { functions = h.0; exceptions = h.1.0; nodes = h.1.1.0; wires = h.1.1.1.0; words = h.1.1.1.1 })
    (λ h. (h.functions, (h.exceptions, (h.nodes, (h.wires, h.words)))))
    (decided_both (decided_le (length core.funs) MAX_FUNCTIONS) (decided_both (decided_le (length core.exns) MAX_EXCEPTIONS)
    (decided_both (decided_le (length core.nodes) MAX_NODES) (decided_both (decided_le (length core.wires) MAX_WIRES)
    (decided_le (sum (map (wire_words core) core.wires)) MAX_WIRE_WORDS)))))

in_bounds : (core : Core) → Decided (IsLeast (BreaksCosts core) None)
in_bounds core = by (least_cost core).0 (least_cost core).1
  where
    by : (o : Option Finding) → IsLeast (BreaksCosts core) o → Decided (IsLeast (BreaksCosts core) None)
    by None least = inl least
    by (Some x) least = inr (λ none. none x least.0)

in_limits : (core : Core) → Decided (IsInLimits core)
in_limits core = decided_as (λ h. record { room = h.0; bounds = h.1 }) (λ h. (h.room, h.bounds)) (decided_both (in_room core) (in_bounds core))

stays_or_passes : (core : Core) (later : List Core) (from : ℕ) → StaysWithin core later ⊎ ((place : ℕ) × PassesAt core later from place)
stays_or_passes core [] from = inl tt
stays_or_passes core (next ∷ later) from = elim (in_limits (united core next)) [
  | inl within ↦ elim (stays_or_passes (united core next) later (from + 1)) [
    | inl stays ↦ inl (within, stays)
    | inr passes ↦ inr (passes.0, inr (within, passes.1))
  ]
  | inr none ↦ inr (from, inl (refl, none))
]

-- what programs with the same cores have in common

abbrev SameCores : List Accepted → List Accepted → Type 0
SameCores p q = map core_of p ≡ map core_of q

tables_same : (sources : List (List ℕ)) (p q : List Accepted) (from : ℕ) → SameCores p q → program_tables sources p from ≡ program_tables sources q from
tables_same [] p q from same = refl
tables_same (source ∷ sources) [] [] from same = refl
tables_same (source ∷ sources) [] (y ∷ q) from same = cc
tables_same (source ∷ sources) (x ∷ p) [] from same = cc
tables_same (source ∷ sources) (x ∷ p) (y ∷ q) from same =
    let core : x.core ≡ y.core = cc in
    let later : SameCores p q = cc in
    λ i. (program_line from source ∷ filter_map (box_line (core i)) (core i).nodes) ++ tables_same sources p q (from + 1) later i

members_same : (sources : List (List ℕ)) (p q : List Accepted) (from : ℕ) → SameCores p q → program_members sources p from ≡ program_members sources q from
members_same [] p q from same = refl
members_same (source ∷ sources) [] [] from same = refl
members_same (source ∷ sources) [] (y ∷ q) from same = cc
members_same (source ∷ sources) (x ∷ p) [] from same = cc
members_same (source ∷ sources) (x ∷ p) (y ∷ q) from same =
    let core : x.core ≡ y.core = cc in
    let later : SameCores p q = cc in
    let member : Core → MemberView = λ c. record { head = program_line from source; nodes = length c.nodes } in
    λ i. member (core i) ∷ members_same sources p q (from + 1) later i

unfit_same : (names sources : List (List ℕ)) (p q : List Accepted) (from : ℕ) → SameCores p q → unfit_program names sources p from ≡ unfit_program names sources q from
unfit_same names [] p q from same = refl
unfit_same names (source ∷ sources) [] [] from same = refl
unfit_same names (source ∷ sources) [] (y ∷ q) from same = cc
unfit_same names (source ∷ sources) (x ∷ p) [] from same = cc
unfit_same names (source ∷ sources) (x ∷ p) (y ∷ q) from same =
    let core : x.core ≡ y.core = cc in
    let later : SameCores p q = cc in
    λ i. line_or C55 from (unfit_line names source [] (streams (core i))) (unfit_same names sources p q (from + 1) later i)

shared_same : (sources earlier : List (List ℕ)) (p q : List Accepted) (from : ℕ) → SameCores p q → shared_program sources earlier p from ≡ shared_program sources earlier q from
shared_same sources earlier [] [] from same = refl
shared_same sources earlier [] (y ∷ q) from same = cc
shared_same sources earlier (x ∷ p) [] from same = cc
shared_same sources earlier (x ∷ p) (y ∷ q) from same =
    let core : x.core ≡ y.core = cc in
    let later : SameCores p q = cc in
    ap (λ (c : Core). line_or C57 from (taken_line (sources ++ earlier) (streams c)) (shared_program sources (earlier ++ ports_of (streams c)) p (from + 1))) core
    ∙ ap (line_or C57 from (taken_line (sources ++ earlier) (streams y.core))) (shared_same sources (earlier ++ ports_of (streams y.core)) p q (from + 1) later)

first_same : (p q : List Accepted) → SameCores p q → first_of p ≡ first_of q
first_same [] [] same = refl
first_same [] (y ∷ q) same = cc
first_same (x ∷ p) [] same = cc
first_same (x ∷ p) (y ∷ q) same = cc

others_same : (p q : List Accepted) → SameCores p q → others_of p ≡ others_of q
others_same [] [] same = refl
others_same [] (y ∷ q) same = cc
others_same (x ∷ p) [] same = cc
others_same (x ∷ p) (y ∷ q) same = cc

pub union_same : (p q : List Accepted) → SameCores p q → union_core p ≡ union_core q
union_same p q same = λ i. followed_by (first_same p q same i) (others_same p q same i)

pub union_tables_same : (sources : List (List ℕ)) (p q : List Accepted) → SameCores p q → union_table sources p ≡ union_table sources q
union_tables_same sources p q same = λ i. tables_same sources p q 1 same i ++ total_line_of (union_same p q same i) ∷ []

pub union_members_same : (sources : List (List ℕ)) (p q : List Accepted) → SameCores p q → program_members sources p 1 ≡ program_members sources q 1
union_members_same sources p q same = members_same sources p q 1 same

passes_same : (p q : List Accepted) (place : ℕ) → SameCores p q → PassesAt (first_of q) (others_of q) 2 place → PassesAt (first_of p) (others_of p) 2 place
passes_same p q place same passes =
    subst (λ (c : Core). PassesAt c (others_of p) 2 place) (sym (first_same p q same))
    (subst (λ (cs : List Core). PassesAt (first_of q) cs 2 place) (sym (others_same p q same)) passes)

-- refusals

none_some : (o : Option ProgramRefusal) (r : ProgramRefusal) → o ≡ None → o ≡ Some r → ⊥
none_some None r none some = cc
none_some (Some x) r none some = cc

one_some : (o : Option ProgramRefusal) (r s : ProgramRefusal) → o ≡ Some r → o ≡ Some s → r ≡ s
one_some None r s x y = cc
one_some (Some z) r s x y = let first : z ≡ r = cc in let second : z ≡ s = cc in sym first ∙ second

module _ (names sources texts : List (List ℕ)) where
  same_accepted : (p q : List Accepted) → AreAccepted texts p → AreAccepted texts q → SameCores p q
  same_accepted p q = cores_same texts p q

  unfit_as : (p q : List Accepted) → AreAccepted texts p → AreAccepted texts q → (o : Option ProgramRefusal) → unfit_program names sources q 1 ≡ o → unfit_program names sources p 1 ≡ o
  unfit_as p q are also o is = unfit_same names sources p q 1 (same_accepted p q are also) ∙ is

  shared_as : (p q : List Accepted) → AreAccepted texts p → AreAccepted texts q → (o : Option ProgramRefusal) → shared_program sources [] q 1 ≡ o → shared_program sources [] p 1 ≡ o
  shared_as p q are also o is = shared_same sources [] p q 1 (same_accepted p q are also) ∙ is

  abbrev over_line : ℕ → ProgramRefusal
  over_line place = record { program = place; refusal = record { rule = C56; line = 1 } }

  pub one_union_refusal : (r s : ProgramRefusal) → IsUnionRefusal names sources texts r → IsUnionRefusal names sources texts s → r ≡ s
  one_union_refusal _ _ (broken r x) (broken s y) = one_breaks texts 1 r s x y
  one_union_refusal _ _ (broken r x) (unfit q also s y) = absurd (none_breaks texts q also 1 r x)
  one_union_refusal _ _ (broken r x) (shared q also fit s y) = absurd (none_breaks texts q also 1 r x)
  one_union_refusal _ _ (broken r x) (over q also fit apart place y) = absurd (none_breaks texts q also 1 r x)
  one_union_refusal _ _ (unfit p are r x) (broken s y) = absurd (none_breaks texts p are 1 s y)
  one_union_refusal _ _ (unfit p are r x) (unfit q also s y) = one_some (unfit_program names sources p 1) r s x (unfit_as p q are also (Some s) y)
  one_union_refusal _ _ (unfit p are r x) (shared q also fit s y) = absurd (none_some (unfit_program names sources p 1) r (unfit_as p q are also None fit) x)
  one_union_refusal _ _ (unfit p are r x) (over q also fit apart place y) = absurd (none_some (unfit_program names sources p 1) r (unfit_as p q are also None fit) x)
  one_union_refusal _ _ (shared p are fit r x) (broken s y) = absurd (none_breaks texts p are 1 s y)
  one_union_refusal _ _ (shared p are fit r x) (unfit q also s y) = absurd (none_some (unfit_program names sources p 1) s fit (unfit_as p q are also (Some s) y))
  one_union_refusal _ _ (shared p are fit r x) (shared q also too s y) = one_some (shared_program sources [] p 1) r s x (shared_as p q are also (Some s) y)
  one_union_refusal _ _ (shared p are fit r x) (over q also too apart place y) = absurd (none_some (shared_program sources [] p 1) r (shared_as p q are also None apart) x)
  one_union_refusal _ _ (over p are fit apart place x) (broken s y) = absurd (none_breaks texts p are 1 s y)
  one_union_refusal _ _ (over p are fit apart place x) (unfit q also s y) = absurd (none_some (unfit_program names sources p 1) s fit (unfit_as p q are also (Some s) y))
  one_union_refusal _ _ (over p are fit apart place x) (shared q also too s y) = absurd (none_some (shared_program sources [] p 1) s apart (shared_as p q are also (Some s) y))
  one_union_refusal _ _ (over p are fit apart place x) (over q also too free other y) =
      ap over_line (one_passes (first_of p) (others_of p) 2 place other x (passes_same p q other (same_accepted p q are also) y))

  -- what may unite isn't refused
  pub not_refused : (r : ProgramRefusal) (q : List Accepted) → IsUnionRefusal names sources texts r → MayUnite names sources texts q → ⊥
  not_refused _ q (broken r x) may = none_breaks texts q may.accepted 1 r x
  not_refused _ q (unfit p are r x) may = none_some (unfit_program names sources p 1) r (unfit_as p q are may.accepted None may.fit) x
  not_refused _ q (shared p are fit r x) may = none_some (shared_program sources [] p 1) r (shared_as p q are may.accepted None may.apart) x
  not_refused _ q (over p are fit apart place x) may =
      none_passes (first_of q) (others_of q) 2 place may.within (passes_same q p place (same_accepted q p may.accepted are) x)

  -- each of the texts is accepted, or one of them is the first that isn't
  abbrev AllOrFirst : List (List ℕ) → ℕ → Type 0
  AllOrFirst all from = ((programs : List Accepted) × AreAccepted all programs) ⊎ ((r : ProgramRefusal) × BreaksFirst all from r)

  all_or_first : (all : List (List ℕ)) (from : ℕ) → AllOrFirst all from
  all_or_first [] from = inl ([], tt)
  all_or_first (text ∷ later) from = elim (front.some_answer text) [
    | inl a ↦ elim (all_or_first later (from + 1)) [
      | inl are ↦ inl (a.0 ∷ are.0, (a.1, are.1))
      | inr first ↦ inr (first.0, inr ((a.0, a.1), first.1))
    ]
    | inr r ↦ inr (record { program = from; refusal = r.0 }, inl (refl, r.1))
  ]

  abbrev pub RefusedOrRuns : Type 0
  RefusedOrRuns = ((r : ProgramRefusal) × IsUnionRefusal names sources texts r) ⊎ ((programs : List Accepted) × MayUnite names sources texts programs)

  of_shared : (programs : List Accepted) → AreAccepted texts programs → unfit_program names sources programs 1 ≡ None → (o : Option ProgramRefusal)
      → shared_program sources [] programs 1 ≡ o → RefusedOrRuns
  of_shared programs are fit (Some r) is = inl (r, shared programs are fit r is)
  of_shared programs are fit None apart = elim (stays_or_passes (first_of programs) (others_of programs) 2) [
    | inl stays ↦ inr (programs, record { accepted = are; fit = fit; apart = apart; within = stays })
    | inr passes ↦ inl (over_line passes.0, over programs are fit apart passes.0 passes.1)
  ]

  of_unfit : (programs : List Accepted) → AreAccepted texts programs → (o : Option ProgramRefusal) → unfit_program names sources programs 1 ≡ o → RefusedOrRuns
  of_unfit programs are (Some r) is = inl (r, unfit programs are r is)
  of_unfit programs are None fit = of_shared programs are fit _ refl

  pub refused_or_runs : RefusedOrRuns
  refused_or_runs = elim (all_or_first texts 1) [
    | inl are ↦ of_unfit are.0 are.1 _ refl
    | inr first ↦ inl (first.0, broken first.0 first.1)
  ]

-- unions can be run

sound_behind : (core : Core) → IsSound core → (texts : List (List ℕ)) (programs : List Accepted) → AreAccepted texts programs → StaysWithin core (map core_of programs)
    → IsSound (followed_by core (map core_of programs))
sound_behind core sound [] [] are stays = sound
sound_behind core sound [] (program ∷ programs) are stays = absurd are
sound_behind core sound (text ∷ texts) [] are stays = sound
sound_behind core sound (text ∷ texts) (program ∷ programs) are stays =
    sound_behind (united core program.core) (union_sound core program.core sound (accepted_sound text program are.0) stays.0.room) texts programs are.1 stays.1

pub union_runs : (text : List ℕ) (texts : List (List ℕ)) (programs : List Accepted) → AreAccepted (text ∷ texts) programs
    → StaysWithin (first_of programs) (others_of programs) → IsRunnable (union_core programs)
union_runs text texts [] are stays = absurd are
union_runs text texts (program ∷ programs) are stays =
    sound_runs (union_core (program ∷ programs)) (sound_behind program.core (accepted_sound text program are.0) texts programs are.1 stays)

-- The outputs of a result are handed over.
use Rattle.std.proofs.Common.{◌≡◌, ℕ, suc, ◌+◌, ◌*◌, ◌/◌, ◌%◌, ◌==◌, ◌≤◌, max, true, if◌then◌else◌, List, [], ◌∷◌, ◌++◌, length, Option, Some, None, refl, ap, sym, ◌∙◌, arith}
use Rattle.std.proofs.lemmas.Bool.{and_parts}
use Rattle.std.specs.List.{filter_map}
use Rattle.std.specs.Option.{option_map}
use Rattle.hume_base.specs.declared.types.Ty.{Ty}
use Rattle.hume_base.specs.declared.types.Types.{Types}
use Rattle.hume_base.specs.declared.types.Value.{Value}
use Rattle.hume_model.specs.ResultTyping.{are_outputs}
use Rattle.box_costs.specs.Costs.{instructions}
use Rattle.box_heap.specs.Heaps.{Object}
use Rattle.box_heap.specs.Standing.{AllStand}
use Rattle.box_code.specs.declared.instr.Instr.TheVariants.{Finish}
use Rattle.box_code.specs.Words.{StandsAt}
use Rattle.box_code.specs.FlatObjects.{flat_at}
use Rattle.box_code.specs.Machine.{Setting, Machine, with_last, outs_in, with_out, flat_outs, ended, act, act_on}
use Rattle.box_code.specs.Represents.{mask_of}
use Rattle.box_code.proofs.ReadBack.{read_there}
use Rattle.code_laws.specs.Ending.{flat_outputs, Finished}
use Rattle.code_laws.proofs.Steps.{append_nil, with_last_all, stays}
use Rattle.code_laws.proofs.FlatValues.{value_flat}

-- the values that are there
abbrev pub given : List (Option Value) → List Value
given outs = filter_map (λ out. out) outs

even_mask : (k : ℕ) → (2 * k % 2 ≡ 0) × (2 * k / 2 ≡ k)
even_mask k = (omega arith, omega arith)

odd_mask : (k : ℕ) → ((1 + 2 * k) % 2 ≡ 1) × ((1 + 2 * k) / 2 ≡ k)
odd_mask k = (omega arith, omega arith)

-- as many outputs as the mask has
pub mask_many : (tys : List Ty) (outs : List (Option Value)) → length outs ≡ length tys → outs_in (mask_of outs) tys ≡ length (given outs)
mask_many [] [] e = refl
mask_many [] (out ∷ outs) e = absurd (omega (arith, e))
mask_many (ty ∷ tys) [] e = absurd (omega (arith, e))
mask_many (ty ∷ tys) (None ∷ outs) e =
    let k = even_mask (mask_of outs) in
    let rest = mask_many tys outs (omega (arith, e)) in
    (λ i. k.0 i + outs_in (k.1 i) tys) ∙ (let x : 0 + outs_in (mask_of outs) tys ≡ length (given outs) = omega (arith, rest) in x)
mask_many (ty ∷ tys) (Some v ∷ outs) e =
    let k = odd_mask (mask_of outs) in
    let rest = mask_many tys outs (omega (arith, e)) in
    (λ i. k.0 i + outs_in (k.1 i) tys) ∙ (let x : 1 + outs_in (mask_of outs) tys ≡ suc (length (given outs)) = omega (arith, rest) in x)

-- their flat words are those of the words on the stack
pub outs_flat : (types : Types) (objects : List Object) (tys : List Ty) (outs : List (Option Value)) (words : List ℕ) → length outs ≡ length tys → are_outputs types tys outs ≡ true
    → AllStand objects (given outs) words → flat_outs types objects tys (mask_of outs) words ≡ Some (flat_outputs types tys outs)
outs_flat types objects [] [] words e is stand = refl
outs_flat types objects [] (out ∷ outs) words e is stand = absurd (omega (arith, e))
outs_flat types objects (ty ∷ tys) [] words e is stand = absurd (omega (arith, e))
outs_flat types objects (ty ∷ tys) (None ∷ outs) [] e is stand =
    let k = even_mask (mask_of outs) in
    (λ i. if k.0 i == 0 then option_map (λ outs. None ∷ outs) (flat_outs types objects tys (k.1 i) []) else None)
    ∙ ap (option_map (λ outs. None ∷ outs)) (outs_flat types objects tys outs [] (omega (arith, e)) is stand)
outs_flat types objects (ty ∷ tys) (None ∷ outs) (w ∷ words) e is stand =
    let k = even_mask (mask_of outs) in
    (λ i. if k.0 i == 0 then option_map (λ outs. None ∷ outs) (flat_outs types objects tys (k.1 i) (w ∷ words)) else with_out (flat_at types objects ty w) (flat_outs types objects tys (k.1 i) words))
    ∙ ap (option_map (λ outs. None ∷ outs)) (outs_flat types objects tys outs (w ∷ words) (omega (arith, e)) is stand)
outs_flat types objects (ty ∷ tys) (Some v ∷ outs) [] e is stand = elim stand [ ]
outs_flat types objects (ty ∷ tys) (Some v ∷ outs) (w ∷ words) e is (AllStand.more first rest) =
    let k = odd_mask (mask_of outs) in
    let ps = and_parts _ _ is in
    (λ i. if k.0 i == 0 then option_map (λ outs. None ∷ outs) (flat_outs types objects tys (k.1 i) (w ∷ words)) else with_out (flat_at types objects ty w) (flat_outs types objects tys (k.1 i) words))
    ∙ (λ i. with_out (value_flat types objects ty v w ps.0 first i) (outs_flat types objects tys outs words (omega (arith, e)) ps.1 rest i))

-- the instruction that hands them over
pub finish_runs : (s : Setting) (m : Machine) (base words : List ℕ) (tall mask next : ℕ) (outs : List (Option Value)) → m.stack ≡ base ++ words → mask ≡ mask_of outs → StandsAt s.code m.at (Finish mask) next
    → length outs ≡ length s.outs → are_outputs s.types s.outs outs ≡ true → AllStand m.objects (given outs) words → length (given outs) ≡ length words → tall ≤ m.peak → Finished s m tall outs (instructions 1)
finish_runs s m base words tall mask next outs is same found long are stand many low =
    let end : Machine = record { at = m.at; stack = base; peak = m.peak; objects = m.objects; outs = flat_outputs s.types s.outs outs; raised = m.raised } in
    record {
      end = end;
      more = [];
      size = refl;
      comes = record {
        last = m;
        before = 0;
        goes = (stays s m).leads;
        ends = ap (λ x. act_on s x m) (read_there s.code m.at (Finish mask) next found)
            ∙ ap (λ mask. act s (Finish mask) next m) same
            ∙ ap (λ stack. with_last (outs_in (mask_of outs) s.outs) stack (λ stack words. ended m stack (flat_outs s.types m.objects s.outs (mask_of outs) words))) is
            ∙ with_last_all base words (outs_in (mask_of outs) s.outs) (λ stack words. ended m stack (flat_outs s.types m.objects s.outs (mask_of outs) words)) (mask_many s.outs outs long ∙ many)
            ∙ ap (ended m base) (outs_flat s.types m.objects s.outs outs words long are stand);
        counted = refl;
      };
      gives = refl;
      objects = sym (append_nil m.objects);
      peak = (let p : m.peak ≡ max m.peak (tall + 0) = omega (arith, low) in p);
      raised = refl;
    }

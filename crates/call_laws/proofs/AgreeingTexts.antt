-- What calls owe over texts that agree on each port that is there.
use Rattle.std.proofs.Common.{◌≡◌, ℕ, Bool, true, false, if◌then◌else◌, List, [], ◌∷◌, map, Option, Some, None, IfSome, slice_get, refl, sym, ap, ◌∙◌, subst, inl, inr}
use Rattle.std.specs.List.{list_any}
use Rattle.std.proofs.lemmas.Bool.{cases_Bool, or_parts}
use Rattle.std.specs.Option.{is_none}
use Rattle.std.specs.Str.{bytes_eq}
use Rattle.hume_base.specs.declared.types.Value.{Value}
use Rattle.hume_model.specs.declared.core_tree.Core.{Core}
use Rattle.hume_model.specs.declared.core_tree.NodeC.{NodeC}
use Rattle.hume_model.specs.declared.core_tree.NodeC.TheVariants.{Rules, From, To}
use Rattle.hume_net.specs.rounds.Pieces.{listed}
use Rattle.hume_ports.specs.Port.{PortView}
use Rattle.hume_ports.specs.Ports.{names, left_of, place_of}
use Rattle.hume_streams.specs.Good.{IsGoodUntil}
use Rattle.port_acts.specs.Ends.{Owed}
use Rattle.phase_workers.specs.StreamTypes.{type_at}
use Rattle.run_rounds.specs.Inputs.{AreInputs, ComesTo, Inputs}
use Rattle.run_rounds.specs.Streams.{streams}
use Rattle.hume_calls.specs.declared.order.Order.{Order}
use Rattle.hume_calls.specs.declared.order.Order.TheVariants.{Run, Calc, Log, Check, Union, Demo}
use Rattle.hume_calls.specs.declared.status.Status.{Status}
use Rattle.hume_calls.specs.Calls.{HaveSameTexts}
use Rattle.hume_calls.specs.Headline.{IsText, LacksPort}
use Rattle.hume_calls.specs.Owed.{IsOwed, IsOwedLogged, IsOwedScript}
use Rattle.hume_calls.specs.Reading.{script_text, source_text}
use Rattle.hume_calls.specs.Streams.{unfit_line}
use Rattle.hume_calls.specs.Unions.{IsUnionRefusal, MayUnite, text_of, union_core, union_texts}
use Rattle.hume_calls.specs.Words.{Named, further_of}
use Rattle.hume_calls.proofs.PortsApart.{union_fit}
use Rattle.hume_calls.proofs.Programs.{many_programs}
use Rattle.hume_calls.proofs.ScriptWords.{NamesFurther, further_there}
use Rattle.hume_calls.proofs.Wanting.{fit_inputs}

-- Both texts are the same for each of the ports but the source's.
abbrev pub Agree : List ℕ → List (List ℕ) → (List ℕ → List ℕ) → (List ℕ → List ℕ) → Type 0
Agree source ports first second =
    (name : List ℕ) → is_none (place_of name ports) ≡ false → bytes_eq name source ≡ false → first name ≡ second name

is_there : (place : Option ℕ) → is_none place ≡ false → place ≡ None → ⊥
is_there None there none = cc
is_there (Some at) there none = cc

-- what is told of one text is told of the other
same_told : (left : Option (List ℕ)) (text bytes : List ℕ) → left ≡ Some bytes → IfSome left (λ l. text ≡ l) → text ≡ bytes
same_told None text bytes is told = cc
same_told (Some l) text bytes is told = told ∙ (let same : l ≡ bytes = cc in same)

pub same_source : (left : Option (List ℕ)) (text bytes : List ℕ) → left ≡ Some bytes → IfSome left (λ l. text ≡ source_text l) → text ≡ source_text bytes
same_source None text bytes is told = cc
same_source (Some l) text bytes is told = told ∙ ap source_text (let same : l ≡ bytes = cc in same)

-- ports that tell the same texts agree
pub told_alike : (source : List ℕ) (old others : List PortView) → HaveSameTexts old others → (first second : List ℕ → List ℕ)
    → IsText source old first → IsText source others second → Agree source (names old) first second
told_alike source old others same first second told also name there apart =
    let tells = same.tell name (is_there (place_of name (names old)) there) in
    same_told (left_of name old) (first name) tells.0 tells.1 (told name apart)
    ∙ sym (same_told (left_of name others) (second name) tells.0 tells.2 (also name apart))

module _ (source : List ℕ) (ports : List (List ℕ)) (first second : List ℕ → List ℕ) (agree : Agree source ports first second)
    (core : Core) (earlier : List (List ℕ)) (fit : unfit_line ports source earlier (streams core) ≡ None) where
  comes_alike : (n : ℕ) (node : Option NodeC) → slice_get core.nodes n ≡ node → (good : List Value) (bad : Option ℕ)
      → ComesTo core first n node good bad → ComesTo core second n node good bad
  comes_alike n None at good bad c = c
  comes_alike n (Some (Rules b)) at good bad c = c
  comes_alike n (Some (To stream)) at good bad c = c
  comes_alike n (Some (From stream)) at good bad c =
      let is = fit_inputs ports source core.nodes earlier fit n stream at in
      subst (λ (text : List ℕ). IsGoodUntil core.types (type_at core n) text good bad) (agree stream.port is.0 is.1) c

  -- the same comes to a core whose streams have their ports
  pub inputs_alike : (coming : Inputs) → AreInputs core first coming → AreInputs core second coming
  inputs_alike coming are = record {
    count = are.count;
    each = λ n. comes_alike n (slice_get core.nodes n) refl (listed coming.good n) (coming.bad n) (are.each n);
  }

module _ (named : Named) (ports : List (List ℕ)) (first second : List ℕ → List ℕ) (agree : Agree named.source ports first second) where
  source_alike : (text other : List ℕ) → is_none (place_of other ports) ≡ false
      → text_of named.source text first other ≡ text_of named.source text second other
  source_alike text other here = elim (cases_Bool (bytes_eq other named.source)) [
    | inl is ↦ rw is refl
    | inr isnt ↦ ap (λ (left : List ℕ). if bytes_eq other named.source then text else source_text left) (agree other here isnt)
  ]

  sources_alike : (text : List ℕ) (others : List (List ℕ)) → list_any (λ name. is_none (place_of name ports)) others ≡ false
      → map (text_of named.source text first) others ≡ map (text_of named.source text second) others
  sources_alike text [] here = refl
  sources_alike text (other ∷ others) here =
      let parts = or_parts (is_none (place_of other ports)) (list_any (λ name. is_none (place_of name ports)) others) here in
      λ i. source_alike text other parts.0 i ∷ sources_alike text others parts.1 i

  all_there : (LacksPort ports named → ⊥) → (lacks : Bool) → list_any (λ name. is_none (place_of name ports)) named.others ≡ lacks → lacks ≡ false
  all_there there true is = absurd (there (inr is))
  all_there there false is = refl

  texts_alike : (text : List ℕ) → (LacksPort ports named → ⊥) → union_texts text named first ≡ union_texts text named second
  texts_alike text there =
      let here = all_there there (list_any (λ name. is_none (place_of name ports)) named.others) refl in
      λ i. text ∷ sources_alike text named.others here i

  script_alike : (steps : ℕ) (core : Core) (lines : List ℕ) (later : Owed Status)
      → IsOwedScript steps core lines named.source (further_of named) ports first later
      → IsOwedScript steps core lines named.source (further_of named) ports second later
  script_alike steps core lines later (inl refused) = inl refused
  script_alike steps core lines later (inr (new, made, within, fit, coming, are, owes)) =
      inr (new, made, within, fit, coming, inputs_alike named.source ports first second agree new (further_of named ∷ []) fit coming are, owes)

  module _ (there : LacksPort ports named → ⊥) where
    -- so a call owes the same
    pub owed_alike : (order : Order) (text : List ℕ) (owed : Owed Status) → NamesFurther order named
        → IsOwed order named text ports first owed → IsOwed order named text ports second owed
    owed_alike (Check place) text owed its owes = owes
    owed_alike (Demo number steps workers) text owed its owes = owes
    owed_alike (Run steps workers place traced) text owed its (inl refused) = inl refused
    owed_alike (Run steps workers place traced) text owed its (inr (accepted, is, fit, coming, are, owes)) =
        inr (accepted, is, fit, coming, inputs_alike named.source ports first second agree accepted.core [] fit coming are, owes)
    owed_alike (Calc steps workers place script) text owed its (inl refused) = inl refused
    owed_alike (Calc steps workers place script) text owed its (inr (sound, is, later, owes, same)) =
        let one : first (further_of named) ≡ second (further_of named) = agree (further_of named) (further_there named ports its there) its.apart in
        let now : IsOwedScript steps sound.core (script_text (second (further_of named))) named.source (further_of named) ports second later =
        subst (λ (all : List ℕ). IsOwedScript steps sound.core (script_text all) named.source (further_of named) ports second later) one
        (script_alike steps sound.core (script_text (first (further_of named))) later owes) in
        inr (sound, is, later, now, same)
    owed_alike (Log steps place log verify) text owed its (inl refused) = inl refused
    owed_alike (Log steps place log verify) text owed its (inr (accepted, is, fit, coming, are, owes)) =
        let one : first (further_of named) ≡ second (further_of named) = agree (further_of named) (further_there named ports its there) its.apart in
        let now : IsOwedLogged verify steps accepted.core coming (further_of named) (second (further_of named)) owed =
        subst (λ (all : List ℕ). IsOwedLogged verify steps accepted.core coming (further_of named) all owed) one owes in
        inr (
          accepted,
          is,
          fit,
          coming,
          inputs_alike named.source ports first second agree accepted.core (further_of named ∷ []) fit coming are,
          now,
        )
    owed_alike (Union steps workers count place) text owed its (inl refused) = inl (
      refused.0,
      subst (λ ts. IsUnionRefusal ports (named.source ∷ named.others) ts refused.0) (texts_alike text there) refused.1,
      refused.2,
    )
    owed_alike (Union steps workers count place) text owed its (inr runs) = inr (
      runs.0,
      subst (λ ts. MayUnite ports (named.source ∷ named.others) ts runs.0) (texts_alike text there) runs.1,
      runs.2,
      inputs_alike named.source ports first second agree (union_core runs.0) []
          (union_fit ports named.source named.others runs.0 (many_programs named text first runs.0 runs.1.accepted) runs.1.fit runs.1.apart) runs.2 runs.3,
      runs.4,
    )

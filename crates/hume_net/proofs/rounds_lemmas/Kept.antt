-- What a piece keeps of the whole: types, an entry for each output, and depths.
use Rattle.std.proofs.Common.{◌≡◌, ◌≤◌, ℕ, true, List, ◌++◌, length, ap, sym, ◌∙◌, subst}
use Rattle.std.proofs.lemmas.Bool.{and_parts}
use Rattle.std.proofs.lemmas.List.Folds.{list_all-append}
use Rattle.std.specs.List.{list_all}
use Rattle.hume_base.specs.declared.types.Ty.{Ty}
use Rattle.hume_base.specs.declared.types.Value.{Value}
use Rattle.hume_base.specs.Values.{is_value}
use Rattle.hume_model.specs.declared.core_tree.NodeC.TheVariants.{Rules, From, To}
use Rattle.hume_model.specs.declared.core_tree.Core.{Core}
use Rattle.hume_net.specs.declared.state.Part.{Part}
use Rattle.hume_net.specs.declared.state.State.{State}
use Rattle.hume_net.specs.Depths.{IsWithinDepths}
use Rattle.hume_net.specs.Sides.{part_of}
use Rattle.hume_net.specs.StatePlaces.{HaveAllOutputs}
use Rattle.hume_net.specs.StateTyping.{IsTypedState}
use Rattle.hume_net.specs.rounds.Pieces.{IsPieceOf}

module _ (core : Core) (t : Ty) where
  abbrev AllAre : List Value → Type 0
  AllAre values = list_all (is_value core.types t) values ≡ true

  front_are : (values more : List Value) → AllAre (values ++ more) → AllAre values
  front_are values more all = (and_parts _ _ (sym (list_all-append (is_value core.types t) values more) ∙ all)).0

  rest_are : (values more : List Value) → AllAre (values ++ more) → AllAre more
  rest_are values more all = (and_parts _ _ (sym (list_all-append (is_value core.types t) values more) ∙ all)).1

module _ (core : Core) (earlier later : ℕ → List Value) (piece whole : State) (it : IsPieceOf core earlier later piece whole) where
  pub piece_typed : IsTypedState core whole → IsTypedState core piece
  piece_typed typed = record {
    wires = λ w wire found. subst (AllAre core wire.ty) (it.wires w wire found) (typed.wires w wire found);
    pending = λ n b outs is h. typed.pending n b outs is (ap (λ (p : Part). p.pending) (it.parts n (Rules b) is) ∙ h);
    coming = λ n stream w wire is found from.
        front_are core wire.ty (part_of piece n).coming (later n)
        (subst (AllAre core wire.ty) (ap (λ (p : Part). p.coming) (it.parts n (From stream) is)) (typed.coming n stream w wire is found from));
    taken = λ n stream w wire is found to place.
        rest_are core wire.ty (earlier n) (part_of piece n).taken
        (subst (AllAre core wire.ty) (ap (λ (p : Part). p.taken) (it.parts n (To stream) is)) (typed.taken n stream w wire is found to place));
  }

  pub piece_outputs : HaveAllOutputs core whole → HaveAllOutputs core piece
  piece_outputs all n b outs is h = all n b outs is (ap (λ (p : Part). p.pending) (it.parts n (Rules b) is) ∙ h)

  pub piece_within : IsWithinDepths core whole → IsWithinDepths core piece
  piece_within within w wire found = subst (λ values. length values ≤ wire.depth) (it.wires w wire found) (within w wire found)

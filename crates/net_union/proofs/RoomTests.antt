-- What the test for room finds, by the numbers of both programs.
use Rattle.std.proofs.Common.{◌≡◌, ◌+◌, ◌-◌, ◌≤◌, List, ◌++◌, map, sum, length, ap, sym, ◌∙◌, subst}
use Rattle.std.proofs.lemmas.List.{length-append, length-drop, length-map}
use Rattle.hume_base.specs.declared.limits.TheConstants.{MAX_EXCEPTIONS, MAX_FUNCTIONS, MAX_NODES, MAX_WIRES, MAX_WIRE_WORDS}
use Rattle.hume_model.specs.declared.core_tree.Core.{Core}
use Rattle.hume_model.specs.Limits.{wire_words}
use Rattle.hume_model.specs.WellFormed.{HasSoundFrame}
use Rattle.union_laws.specs.Moving.{moved_exception, moved_function}
use Rattle.union_laws.specs.Room.{HasRoom}
use Rattle.union_laws.specs.Union.{behind, declared_exceptions, united}
use Rattle.union_laws.proofs.Unions.{all_nodes, all_wires}
use Rattle.net_union.proofs.UnionWords.{union_words}

both_long : {X Y : Type 0} (f : Y → X) (xs : List X) (ys : List Y) → length (xs ++ map f ys) ≡ length xs + length ys
both_long f xs ys = length-append xs (map f ys) ∙ ap (λ n. length xs + n) (length-map ys f)

module _ (a b : Core) (first : HasSoundFrame a) (second : HasSoundFrame b) where
  all_funs : length (united a b).funs ≡ length a.funs + length b.funs
  all_funs = both_long (moved_function (behind a)) a.funs b.funs

  all_exns : length (united a b).exns ≡ length a.exns + (length b.exns - 3)
  all_exns = both_long (moved_exception (behind a)) a.exns (declared_exceptions b) ∙ ap (λ n. length a.exns + n) (length-drop 3 b.exns)

  -- the numbers of both programs, each within its limit
  pub record BothFit : Type 0 where
    pub functions : length a.funs + length b.funs ≤ MAX_FUNCTIONS
    pub exceptions : length a.exns + (length b.exns - 3) ≤ MAX_EXCEPTIONS
    pub nodes : length a.nodes + length b.nodes ≤ MAX_NODES
    pub wires : length a.wires + length b.wires ≤ MAX_WIRES
    pub words : sum (map (wire_words a) a.wires) + sum (map (wire_words b) b.wires) ≤ MAX_WIRE_WORDS

  pub fits_then_room : BothFit → HasRoom (united a b)
  fits_then_room fit = record {
    functions = subst (λ n. n ≤ MAX_FUNCTIONS) (sym all_funs) fit.functions;
    exceptions = subst (λ n. n ≤ MAX_EXCEPTIONS) (sym all_exns) fit.exceptions;
    nodes = subst (λ n. n ≤ MAX_NODES) (sym (all_nodes a b)) fit.nodes;
    wires = subst (λ n. n ≤ MAX_WIRES) (sym (all_wires a b)) fit.wires;
    words = subst (λ n. n ≤ MAX_WIRE_WORDS) (sym (union_words a b first second)) fit.words;
  }

  pub room_then_fits : HasRoom (united a b) → BothFit
  room_then_fits room = record {
    functions = subst (λ n. n ≤ MAX_FUNCTIONS) all_funs room.functions;
    exceptions = subst (λ n. n ≤ MAX_EXCEPTIONS) all_exns room.exceptions;
    nodes = subst (λ n. n ≤ MAX_NODES) (all_nodes a b) room.nodes;
    wires = subst (λ n. n ≤ MAX_WIRES) (all_wires a b) room.wires;
    words = subst (λ n. n ≤ MAX_WIRE_WORDS) (union_words a b first second) room.words;
  }

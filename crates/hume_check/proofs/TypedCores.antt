-- The trees of declarations, in the order of the core that they erase to, are those of the core.
use Rattle.std.proofs.Common.{◌≡◌, ℕ, suc, List, [], ◌∷◌, map, Bool, true, false, Option, Some, None, slice_get, refl, ap, sym, subst, ◌∙◌}
use Rattle.std.specs.List.{All, filter_map, cons_option}
use Rattle.std.specs.Option.{option_map}
use Rattle.std.proofs.lemmas.Bool.{or_parts}
use Rattle.std.proofs.lemmas.List.Elements.{All-nil, All-cons}
use Rattle.std.proofs.lemmas.Option.{slice_get-map}
use Rattle.hume_base.specs.declared.types.Types.{Types}
use Rattle.hume_ast.specs.declared.tree.TyExp.{TyExp}
use Rattle.hume_ast.specs.declared.tree.Decl.{Decl}
use Rattle.hume_ast.specs.declared.tree.Decl.TheVariants.{Fun, BoxD, Stream}
use Rattle.hume_model.specs.declared.core_tree.PortC.{PortC}
use Rattle.hume_model.specs.declared.core_tree.BoxC.{BoxC}
use Rattle.hume_model.specs.declared.core_tree.FunC.{FunC}
use Rattle.hume_model.specs.declared.core_tree.NodeC.{NodeC}
use Rattle.hume_model.specs.declared.core_tree.Core.{Core}
use Rattle.hume_model.specs.BoxTyping.{port_types}
use Rattle.typed_core.specs.declared.typed_tree.TypedEquation.{TypedEquation}
use Rattle.typed_core.specs.declared.typed_tree.TypedDeclaration.{TypedDeclaration}
use Rattle.typed_core.specs.declared.typed_tree.TypedDeclaration.TheVariants.{NoTrees}
use Rattle.typed_core.specs.Declarations.{AreEquationsOf, TypedHandlerFits, TypedRuleFits}
use Rattle.typed_core.specs.Erasing.{erased_handler, erased_rule}
use Rattle.check_typing.specs.Partial.{given}
use Rattle.check_typing.specs.Declarations.{InPlaces, CoredEquation, CoredRule, CoredHandler, CoredDeclaration, some_so, cores_alone, WrittenRule, WrittenHandler, IsRule, IsHandler, IsFunction, IsBox, HasTrees, ports_written}
use Rattle.check_typing.specs.inner.DeclarationWalk.{function_walk}
use Rattle.check_typing.specs.CoreSignatures.{HasSignatures}
use Rattle.check_typing.specs.declared.signatures.Signatures.{Signatures}
use Rattle.check_typing.proofs.Maybe.{given-at, some-same}
use Rattle.check_typing.proofs.DeclarationsAgree.{only_one, finds_function, box_to}
use Rattle.check_typing.proofs.DeclarationsTyped.{function_typed, rule_typed, handler_typed}
use Rattle.check_rules.specs.Declared.{Decls, FunctionDecl, function_of, in_order, Numbered, numbered_from, if_node}
use Rattle.check_rules.specs.CoreOf.{IsFunctionOf, IsPort, IsBoxOf, IsNodeOf}
use Rattle.check_rules.proofs.Stands.{from_left, from_right}
use Rattle.typed_core.specs.declared.trees.BoxTrees.{BoxTrees}
use Rattle.typed_core.specs.Trees.{FunctionsHave, AreTreesOfBox, BoxesHave}
use Rattle.hume_check.specs.inner.Trees.{HaveTrees}
use Rattle.hume_check.specs.inner.CoreTrees.{slot_at, equations_of, box_trees_of}

-- the types that are written at the inputs or outputs are those of the core
ports_are : (types : Types) (places : List (List ℕ × TyExp)) (ports : List PortC) → InPlaces (IsPort types) places ports
    → ports_written types places ≡ Some (port_types ports)
ports_are types [] [] h = refl
ports_are types [] (port ∷ ports) h = absurd h
ports_are types (place ∷ places) [] h = absurd h
ports_are types (place ∷ places) (port ∷ ports) h =
    given-at _ _ port.ty h.0.ty ∙ given-at _ _ (port_types ports) (ports_are types places ports h.1)

-- trees that belong to what is written, none with a literal out of range, have what such a tree has
all_fit : {A B : Type 0} (Belongs : A → B × Bool → Type 0) (P : B → Type 0) → ((x : A) (c : B × Bool) → Belongs x c → c.1 ≡ false → P c.0)
    → (xs : List A) (cs : List (B × Bool)) → InPlaces Belongs xs cs → some_so cs ≡ false → All P (cores_alone cs)
all_fit Belongs P each [] [] h off = All-nil P
all_fit Belongs P each [] (c ∷ cs) h off = absurd h
all_fit Belongs P each (x ∷ xs) [] h off = absurd h
all_fit Belongs P each (x ∷ xs) (c ∷ cs) h off =
    let flags = or_parts c.1 (some_so cs) off in
    All-cons P c.0 (cores_alone cs) (each x c h.0 flags.0) (all_fit Belongs P each xs cs h.1 flags.1)

module _ (text : List ℕ) (s : Signatures) (core : Core) (of : HasSignatures s core) where
  -- the trees are those that the function has
  record HasEquations (f : FunctionDecl) (equations : List TypedEquation) : Type 0 where
    cores : List CoredEquation
    typed : IsFunction s f.name f.types f.equations cores
    narrow : some_so cores ≡ false
    are : cores_alone cores ≡ equations

  function_fits : (f : FunctionDecl) (equations : List TypedEquation) (function : FunC) → HasEquations f equations → IsFunctionOf text s f function
      → AreEquationsOf core function equations
  function_fits f equations function has is =
      let same : has.cores ≡ is.cores =
      only_one (IsFunction s f.name f.types) (function_walk s f.name f.types) (finds_function s f.name f.types) f.equations has.cores is.cores
      has.typed is.typed in
      let narrow : some_so is.cores ≡ false = ap (λ (cs : List CoredEquation). some_so cs) (sym same) ∙ has.narrow in
      subst (AreEquationsOf core function) (ap (λ (cs : List CoredEquation). cores_alone cs) (sym same) ∙ has.are)
      (function_typed s core of f.name f.types f.equations is.cores _ function is.typed narrow is.signature (record { params = refl; gives = refl })
      is.equations)

  -- there are equations just where there is a function
  abbrev HaveIfOne : Option FunctionDecl → Option (List TypedEquation) → Type 0
  HaveIfOne None None = Unit {0}
  HaveIfOne (Some f) (Some equations) = HasEquations f equations
  HaveIfOne _ _ = ⊥

  in_place : (d : ℕ × Decl) (t : TypedDeclaration) → HasTrees s d.1 t → HaveIfOne (function_of d) (equations_of t)
  in_place (place, Fun name types equations) t h =
      subst (λ (t : TypedDeclaration). HaveIfOne (function_of (place, Fun name types equations)) (equations_of t))
      (sym (ap (λ (c : CoredDeclaration). c.0) h.2))
      (record { cores = h.0; typed = h.1; narrow = sym (ap (λ (c : CoredDeclaration). c.1) h.2); are = refl })
  in_place (place, BoxD name ins outs fair rules handlers) t h =
      subst (λ (t : TypedDeclaration). HaveIfOne None (equations_of t)) (sym (ap (λ (c : CoredDeclaration). c.0) h.3)) tt
  in_place (place, _) t h = subst (λ (t : TypedDeclaration). HaveIfOne None (equations_of t)) (sym (ap (λ (c : CoredDeclaration). c.0) h)) tt

  module _ (decls : Decls) (declared : List TypedDeclaration) (have : HaveTrees s decls declared) where
    at_number : (number : ℕ) → HaveIfOne (given (slice_get decls number) function_of) (slot_at (map equations_of declared) number)
    at_number number =
        subst (λ (o : Option (Option (List TypedEquation))). HaveIfOne (given (slice_get decls number) function_of) (given o (λ slot. slot))) (sym (slice_get-map equations_of declared number))
        (by (slice_get decls number) (slice_get declared number) refl refl)
      where
        by : (d : Option (ℕ × Decl)) (t : Option TypedDeclaration) → slice_get decls number ≡ d → slice_get declared number ≡ t
            → HaveIfOne (given d function_of) (given (option_map equations_of t) (λ slot. slot))
        by None None a b = tt
        by None (Some t) a b =
            let there = from_right (λ (d : ℕ × Decl) t. HasTrees s d.1 t) decls declared have number t b in let none = sym a ∙ there.1 in cc
        by (Some d) None a b =
            let there = from_left (λ (d : ℕ × Decl) t. HasTrees s d.1 t) decls declared have number d a in let none = sym b ∙ there.1 in cc
        by (Some d) (Some t) a b =
            let there = from_left (λ (d : ℕ × Decl) t. HasTrees s d.1 t) decls declared have number d a in
            in_place d t (subst (HasTrees s d.1) (some-same _ _ (sym there.1 ∙ b)) there.2)

    -- the functions in any order have the equations in that order
    pub functions_have : (order : List ℕ) (funs : List FunC) → InPlaces (IsFunctionOf text s) (in_order function_of order decls) funs
        → FunctionsHave core funs (filter_map (slot_at (map equations_of declared)) order)
    functions_have [] [] h = tt
    functions_have [] (function ∷ funs) h = absurd h
    functions_have (number ∷ order) funs h =
        by (given (slice_get decls number) function_of) (slot_at (map equations_of declared) number) (at_number number)
        (λ others k. functions_have order others k) funs h
      where
        by : (o : Option FunctionDecl) (q : Option (List TypedEquation)) → HaveIfOne o q
            → ((funs : List FunC) → InPlaces (IsFunctionOf text s) (in_order function_of order decls) funs
            → FunctionsHave core funs (filter_map (slot_at (map equations_of declared)) order))
            → (funs : List FunC) → InPlaces (IsFunctionOf text s) (cons_option o (in_order function_of order decls)) funs
            → FunctionsHave core funs (cons_option q (filter_map (slot_at (map equations_of declared)) order))
        by None None has later funs h = later funs h
        by None (Some equations) has later funs h = absurd has
        by (Some f) None has later funs h = absurd has
        by (Some f) (Some equations) has later [] h = absurd h
        by (Some f) (Some equations) has later (function ∷ funs) h = (function_fits f equations function has h.0, later funs h.1)

  -- the trees that a box has are those of the box of the core
  box_fits : (d : Numbered) (title : List ℕ) (ins outs : List (List ℕ × TyExp)) (is_fair : Bool) (rules : List WrittenRule) (handlers : List WrittenHandler)
      (rs : List CoredRule) (hs : List CoredHandler) (b : BoxC) → IsBox s ins outs rules handlers rs hs → some_so rs ≡ false → some_so hs ≡ false
      → IsBoxOf text s d title ins outs is_fair rules handlers b
      → AreTreesOfBox core b (record { rules = cores_alone rs; handlers = cores_alone hs })
  box_fits d title ins outs is_fair rules handlers rs hs b typed off_rules off_handlers is =
      let both = some-same _ _ (sym (box_to s ins outs rules handlers is.rule_cores is.handler_cores is.typed) ∙ box_to s ins outs rules handlers rs hs typed) in
      let ins_are : typed.ins ≡ port_types b.ins = some-same _ _ (sym typed.inputs_are ∙ ports_are s.types ins b.ins is.ins) in
      let outs_are : typed.outs ≡ port_types b.outs = some-same _ _ (sym typed.outputs_are ∙ ports_are s.types outs b.outs is.outs) in
      let rules_have : InPlaces (IsRule s (port_types b.ins) (port_types b.outs)) rules rs =
      subst (λ us. InPlaces (IsRule s us (port_types b.outs)) rules rs) ins_are
      (subst (λ us. InPlaces (IsRule s typed.ins us) rules rs) outs_are typed.rules_have) in
      let handlers_have : InPlaces (IsHandler s (port_types b.outs)) handlers hs =
      subst (λ us. InPlaces (IsHandler s us) handlers hs) outs_are typed.handlers_have in
      record {
        rules = sym (is.rules_are ∙ ap (λ (r : List CoredRule × List CoredHandler). map erased_rule (cores_alone r.0)) both);
        rules_fit = all_fit (IsRule s (port_types b.ins) (port_types b.outs)) (TypedRuleFits core b) (rule_typed s core of b) rules rs rules_have off_rules;
        handlers = sym (is.handlers_are ∙ ap (λ (r : List CoredRule × List CoredHandler). map erased_handler (cores_alone r.1)) both);
        handlers_fit =
            all_fit (IsHandler s (port_types b.outs)) (TypedHandlerFits core b) (handler_typed s core of b) handlers hs handlers_have off_handlers;
      }

  -- the nodes of declarations that are numbered from one number
  abbrev Nodes : List Numbered → List NodeC → Type 0
  Nodes ds nodes = InPlaces (λ (d : Numbered) node. IsNodeOf text s d d.decl node) ds nodes

  -- a declaration before others, which have their trees
  module _ (left : List Numbered) (others : List BoxTrees) (later : (nodes : List NodeC) → Nodes left nodes → BoxesHave core nodes others) where
    no_box : (t : TypedDeclaration) (flag : Bool) (nodes : List NodeC) → ◌≡◌ {A = CoredDeclaration} (t, flag) (NoTrees, false)
        → BoxesHave core nodes others → BoxesHave core nodes (cons_option (box_trees_of t) others)
    no_box t flag nodes is h =
        subst (λ (t : TypedDeclaration). BoxesHave core nodes (cons_option (box_trees_of t) others)) (sym (ap (λ (c : CoredDeclaration). c.0) is)) h

    box_before : (number : ℕ) (d : ℕ × Decl) (t : TypedDeclaration) → HasTrees s d.1 t → (nodes : List NodeC)
        → Nodes (cons_option (if_node (record { number = number; place = d.0; decl = d.1 }) d.1) left) nodes
        → BoxesHave core nodes (cons_option (box_trees_of t) others)
    box_before number (place, BoxD name ins outs fair rules handlers) t h [] k = absurd k
    box_before number (place, BoxD name ins outs fair rules handlers) t h (first ∷ nodes) k =
        let d : Numbered = record { number = number; place = place; decl = BoxD name ins outs fair rules handlers } in
        let flags = or_parts (some_so h.0) (some_so h.1) (sym (ap (λ (c : CoredDeclaration). c.1) h.3)) in
        let fits = box_fits d name ins outs fair rules handlers h.0 h.1 k.0.0 h.2 flags.0 flags.1 k.0.2 in
        subst (λ (t : TypedDeclaration). BoxesHave core (first ∷ nodes) (cons_option (box_trees_of t) others))
        (sym (ap (λ (c : CoredDeclaration). c.0) h.3))
        (subst (λ (n : NodeC). BoxesHave core (n ∷ nodes) (record { rules = cores_alone h.0; handlers = cores_alone h.1 } ∷ others)) (sym k.0.1)
        (fits, later nodes k.1))
    box_before number (place, Stream name true port) t h [] k = absurd k
    box_before number (place, Stream name false port) t h [] k = absurd k
    box_before number (place, Stream name true port) t h (first ∷ nodes) k =
        no_box t false (first ∷ nodes) h (subst (λ (n : NodeC). BoxesHave core (n ∷ nodes) others) (sym k.0) (later nodes k.1))
    box_before number (place, Stream name false port) t h (first ∷ nodes) k =
        no_box t false (first ∷ nodes) h (subst (λ (n : NodeC). BoxesHave core (n ∷ nodes) others) (sym k.0) (later nodes k.1))
    box_before number (place, Fun name types equations) t h nodes k =
        subst (λ (t : TypedDeclaration). BoxesHave core nodes (cons_option (box_trees_of t) others)) (sym (ap (λ (c : CoredDeclaration). c.0) h.2))
        (later nodes k)
    box_before number (place, _) t h nodes k = no_box t false nodes h (later nodes k)

  -- the boxes have their trees in the order of their declarations
  pub boxes_have : (number : ℕ) (decls : Decls) (declared : List TypedDeclaration) (nodes : List NodeC) → HaveTrees s decls declared
      → Nodes (filter_map (λ (d : Numbered). if_node d d.decl) (numbered_from number decls)) nodes
      → BoxesHave core nodes (filter_map box_trees_of declared)
  boxes_have number [] [] [] have h = tt
  boxes_have number [] [] (first ∷ nodes) have h = absurd h
  boxes_have number [] (t ∷ declared) nodes have h = absurd have
  boxes_have number (d ∷ decls) [] nodes have h = absurd have
  boxes_have number (d ∷ decls) (t ∷ declared) nodes have h =
      box_before (filter_map (λ (d : Numbered). if_node d d.decl) (numbered_from (suc number) decls)) (filter_map box_trees_of declared)
      (λ others k. boxes_have (suc number) decls declared others have.1 k) number d t have.0 nodes h

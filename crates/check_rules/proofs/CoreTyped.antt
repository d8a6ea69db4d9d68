-- Functions and boxes of a core have their types.
use Rattle.std.proofs.Common.{◌≡◌, ℕ, List, [], ◌∷◌, ◌++◌, take, length, Some, slice_get, refl, ap, sym, subst, ◌∙◌, Bool, ◌||◌, true, false}
use Rattle.std.proofs.lemmas.Bool.{or_parts}
use Rattle.hume_base.specs.declared.types.Types.{Types}
use Rattle.hume_base.specs.declared.rule.Rule.TheVariants.{C41}
use Rattle.hume_ast.specs.declared.tree.TyExp.{TyExp}
use Rattle.hume_ast.specs.declared.tree.Decl.{Decl}
use Rattle.hume_ast.specs.declared.tree.Decl.TheVariants.{BoxD, Stream}
use Rattle.hume_ast.specs.declared.tree.Program.{Program}
use Rattle.hume_model.specs.declared.core_tree.PortC.{PortC}
use Rattle.hume_model.specs.declared.core_tree.BoxC.{BoxC}
use Rattle.hume_model.specs.declared.core_tree.NodeC.TheVariants.{Rules}
use Rattle.hume_model.specs.declared.core_tree.Core.{Core}
use Rattle.hume_model.specs.OwnExceptions.{HasOwnExceptions, own_exceptions}
use Rattle.hume_model.specs.Typing.{EquationsHave, FunctionsAreTyped}
use Rattle.hume_model.specs.BoxTyping.{port_types, BoxIsTyped}
use Rattle.typed_core.specs.declared.typed_tree.TypedDeclaration.TheVariants.{Equations, Rules as RulesOf}
use Rattle.typed_core.proofs.Typed.{equations_have}
use Rattle.check_typing.specs.Declarations.{InPlaces, some_so, cores_alone, WrittenRule, WrittenHandler, HasWideLiteral, signature_written, ports_written}
use Rattle.check_typing.specs.CoreSignatures.{HasSignatures}
use Rattle.check_typing.specs.declared.signatures.Signature.{Signature}
use Rattle.check_typing.specs.declared.signatures.Signatures.{Signatures}
use Rattle.check_typing.proofs.Maybe.{some-same, given-at}
use Rattle.check_typing.proofs.DeclarationsTyped.{function_typed, box_typed}
use Rattle.check_rules.specs.Declared.{Decls, FunctionDecl, function_of, Numbered}
use Rattle.check_rules.specs.CheckRules.{IsFine, BreaksCheck, BreaksTypes}
use Rattle.check_rules.specs.SignaturesOf.{AreSignatures}
use Rattle.check_rules.specs.CoreOf.{IsFunctionOf, IsPort, IsBoxOf, IsNodeOf, IsCoreOf}
use Rattle.check_rules.proofs.Stands.{from_left, from_right, declared, function_is, node_stands}

-- the exceptions that every program has stand first
pub own_first : (text : List ℕ) (program : Program) (core : Core) → IsCoreOf text program core → HasOwnExceptions core
own_first text program core p =
    let are = p.are.exns in
    let all : core.exns ≡ own_exceptions ++ are.declared = p.exns ∙ are.all in
    ap (take (length own_exceptions)) all

-- no literal of a declaration is out of range
narrow : (decls : Decls) (s : Signatures) → IsFine decls → AreSignatures decls s → (n : ℕ) (d : ℕ × Decl) → slice_get decls n ≡ Some d → HasWideLiteral s d.1 → ⊥
narrow decls s fine are n d there wide =
    fine (record { rule = C41; declaration = n })
    (BreaksCheck.types (BreaksTypes.out_of_range (refl, record { signatures = s; are = are; decl = d; there = there; wide = wide })))

pub not_so : (b : Bool) → (true ≡ b → ⊥) → b ≡ false
not_so true h = absurd (h refl)
not_so false h = refl

pub ports_are : (types : Types) (places : List (List ℕ × TyExp)) (ports : List PortC) → InPlaces (IsPort types) places ports → ports_written types places ≡ Some (port_types ports)
ports_are types [] [] h = refl
ports_are types [] (port ∷ ports) h = absurd h
ports_are types (place ∷ places) [] h = absurd h
ports_are types (place ∷ places) (port ∷ ports) h =
    given-at _ _ port.ty h.0.ty ∙ given-at _ _ (port_types ports) (ports_are types places ports h.1)

-- the declaration of a box
pub record DeclaresBox (text : List ℕ) (s : Signatures) (d : Numbered) (b : BoxC) : Type 0 where
  pub name : List ℕ
  pub ins : List (List ℕ × TyExp)
  pub outs : List (List ℕ × TyExp)
  pub is_fair : Bool
  pub rules : List WrittenRule
  pub handlers : List WrittenHandler
  pub decl : d.decl ≡ BoxD name ins outs is_fair rules handlers
  pub is : IsBoxOf text s d name ins outs is_fair rules handlers b

same_box : (a b : BoxC) → Rules a ≡ Rules b → a ≡ b
same_box a b e = cc

as_box : (text : List ℕ) (s : Signatures) (d : Numbered) (decl : Decl) (b : BoxC) → d.decl ≡ decl → IsNodeOf text s d decl (Rules b) → DeclaresBox text s d b
as_box text s d (BoxD name ins outs fair rules handlers) b e h =
    record {
      name = name;
      ins = ins;
      outs = outs;
      is_fair = fair;
      rules = rules;
      handlers = handlers;
      decl = e;
      is = subst (IsBoxOf text s d name ins outs fair rules handlers) (sym (same_box _ _ h.1)) h.2;
    }
as_box text s d (Stream name true port) b e h = cc
as_box text s d (Stream name false port) b e h = cc
as_box text s d _ b e h = absurd h

module _ (text : List ℕ) (program : Program) (core : Core) (fine : IsFine program.decls) (p : IsCoreOf text program core) where
  -- the core has the program's signatures
  pub has_signatures : HasSignatures p.signatures core
  has_signatures = record {
    types = p.types;
    exns = p.exns;
    funs = λ number signature there.
        let w = from_right (λ (f : FunctionDecl) (s : Signature). signature_written p.signatures.types f.name f.types ≡ Some s) _ _ p.are.funs.each number signature there in
        let c = from_left (IsFunctionOf text p.signatures) _ _ p.funs number w.0 w.1 in
        let same : record { name = w.0.name; params = c.0.params; gives = c.0.gives } ≡ signature = some-same _ _ (sym c.2.signature ∙ w.2) in
        record {
          function = c.0;
          there = c.1;
          is = record { params = ap (λ (s : Signature). s.params) same; gives = ap (λ (s : Signature). s.gives) same };
        };
  }

  pub functions_typed : FunctionsAreTyped core
  functions_typed number function there =
      let c = from_right (IsFunctionOf text p.signatures) _ _ p.funs number function there in
      let d = declared function_of p.are.funs.order program.decls number c.0 c.1 in
      let is = function_is d.1 c.0 d.3 in
      let trees = Equations (cores_alone c.2.cores) in
      let off : some_so c.2.cores ≡ false = not_so _ (λ wide. narrow program.decls p.signatures fine p.are d.0 d.1 d.2
      (subst (HasWideLiteral p.signatures) (sym is) (trees, (c.2.cores, c.2.typed, λ i. (trees, wide i))))) in
      let are = function_typed p.signatures core has_signatures c.0.name c.0.types c.0.equations c.2.cores _ function c.2.typed off c.2.signature
      (record { params = refl; gives = refl }) c.2.equations in
      subst (EquationsHave core function) are.erases (equations_have core function (cores_alone c.2.cores) are.typed)

  -- a box of the core is declared
  pub box_declared : (n : ℕ) (b : BoxC) → slice_get core.nodes n ≡ Some (Rules b)
      → (d : Numbered) × (slice_get program.decls d.number ≡ Some (d.place, d.decl)) × DeclaresBox text p.signatures d b
  box_declared n b there =
      let c = from_right (λ (d : Numbered) node. IsNodeOf text p.signatures d d.decl node) _ _ p.nodes n (Rules b) there in
      (c.0, node_stands program.decls n c.0 c.1, as_box text p.signatures c.0 c.0.decl b refl c.2)

  pub boxes_typed : (n : ℕ) (b : BoxC) → slice_get core.nodes n ≡ Some (Rules b) → BoxIsTyped core b
  boxes_typed n b there =
      let c = box_declared n b there in
      let box = c.2 in
      let trees = RulesOf (cores_alone box.is.rule_cores) (cores_alone box.is.handler_cores) in
      let off : (some_so box.is.rule_cores || some_so box.is.handler_cores) ≡ false = not_so _ (λ wide. narrow program.decls p.signatures fine p.are c.0.number (c.0.place, c.0.decl) c.1
      (subst (HasWideLiteral p.signatures) (sym box.decl) (trees, (box.is.rule_cores, box.is.handler_cores, box.is.typed, λ i. (trees, wide i))))) in
      let flags = or_parts (some_so box.is.rule_cores) (some_so box.is.handler_cores) off in
      box_typed p.signatures core has_signatures box.ins box.outs box.rules box.handlers box.is.rule_cores box.is.handler_cores b box.is.typed flags.0 flags.1
      (ports_are p.signatures.types box.ins b.ins box.is.ins) (ports_are p.signatures.types box.outs b.outs box.is.outs) box.is.rules_are box.is.handlers_are

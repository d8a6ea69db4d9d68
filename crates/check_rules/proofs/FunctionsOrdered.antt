-- Functions call functions of smaller numbers only.
use Rattle.std.proofs.Common.{◌≡◌, ℕ, ◌<◌, ◌≤◌, List, [], ◌∷◌, ◌++◌, map, length, take, get_or, Contains, Option, Some, None, slice_get, refl, ap, sym, subst, ◌∙◌, arith, true}
use Rattle.std.specs.List.{list_all, filter_map}
use Rattle.std.proofs.lemmas.List.Elements.{Contains-append_left, Contains-append_right}
use Rattle.std.proofs.lemmas.Option.{slice_get_within}
use Rattle.hume_base.specs.declared.types.Types.{Types}
use Rattle.hume_ast.specs.declared.tree.Pat.{Pat}
use Rattle.hume_ast.specs.declared.tree.TyExp.{TyExp}
use Rattle.hume_ast.specs.declared.tree.Exp.{Exp, roll-Exp, map-Exp, ind-Exp, fold-roll-Exp}
use Rattle.hume_ast.specs.declared.tree.Exp.TheOpen.{Exp-F}
use Rattle.hume_ast.specs.declared.tree.Program.{Program}
use Rattle.check_names.specs.declared.mention_list.NameKind.TheVariants.{Function}
use Rattle.check_names.specs.Names.{joined}
use Rattle.check_names.specs.Mentions.{Mention, ByScope, all_in, alternatives_in, exp_step, mentions, variables_of, bound_by, pattern_mentions, patterns_mentions, clause_mentions, types_mentions, type_mentions, mentions_of}
use Rattle.check_names.specs.Leading.{names_of_kind}
use Rattle.hume_model.specs.declared.core_tree.Core.{Core}
use Rattle.hume_model.specs.Calls.{calls_below, equation_calls, CallsGoDown}
use Rattle.typed_core.specs.Erasing.{erased, erased_equation}
use Rattle.check_typing.specs.Partial.{given}
use Rattle.check_typing.specs.WrittenTypes.{all_written}
use Rattle.check_typing.specs.Typing.{arm_with, typing, typing_step}
use Rattle.check_typing.specs.Declarations.{InPlaces, parted, signature_written, WrittenEquation, CoredEquation, cores_alone, IsEquation}
use Rattle.check_typing.specs.declared.signatures.Signature.{Signature}
use Rattle.check_typing.specs.declared.signatures.Signatures.{Signatures}
use Rattle.check_typing.proofs.Maybe.{some-same, given-inv, given-at}
use Rattle.check_typing.proofs.NamesFound.{first_stands}
use Rattle.check_typing.proofs.TypingLevels.{typing_roll}
use Rattle.check_rules.specs.Declared.{Decls, FunctionDecl, function_of, in_order}
use Rattle.check_rules.specs.SignaturesOf.{AreFunctions}
use Rattle.check_rules.specs.CoreOf.{IsFunctionOf, IsCoreOf}
use Rattle.check_rules.proofs.Stands.{from_left, from_right, declared, function_is}
use Rattle.check_rules.proofs.OrderedPlaces.{placed, kept, kept_on, first_has_name, first_before}
use Rattle.check_rules.proofs.Mentioned.{leads}
use Rattle.check_rules.proofs.FormsCall.{IsBelow, Goes, AllGo, AllArmsGo, goes_literal, goes_letter, goes_truth, goes_star, goes_let, goes_if, goes_binary, goes_update, goes_not, goes_neg, goes_cast, goes_raise, goes_raise_with, goes_variable, goes_app, goes_con, goes_tuple, goes_vector, goes_case}

module _ (s : Signatures) (bound : ℕ) where
  -- each function that is mentioned has a number below the bound
  abbrev pub Below : List Mention → Type 0
  Below ms = (name : List ℕ) → Contains ms (Function, name) → IsBelow s bound name

  below_left : (xs ys : List Mention) → Below (xs ++ ys) → Below xs
  below_left xs ys h name c = h name (Contains-append_left xs ys (Function, name) c)

  below_right : (xs ys : List Mention) → Below (xs ++ ys) → Below ys
  below_right xs ys h name c = h name (Contains-append_right xs ys (Function, name) c)

  below_rest : (x : Mention) (ys : List Mention) → Below (x ∷ ys) → Below ys
  below_rest x ys h = below_right (x ∷ []) ys h

  abbrev GoesIn : ByScope → Exp → Type 0
  GoesIn by e = (names : List (List ℕ)) → Below (by names) → Goes s bound (typing s e)

  abbrev Known : Type 0
  Known = (e : Exp) × GoesIn (mentions e) e

  abbrev alone : Known → Exp
  alone e = e.0

  abbrev parts : Exp-F Known → Exp-F Exp
  parts y = map-Exp Known Exp alone y

  all_known : (es : List Known) (names : List (List ℕ)) → Below (all_in (map mentions (map alone es)) names) → AllGo s bound (map (typing s) (map alone es))
  all_known [] names h = tt
  all_known (e ∷ es) names h = (
    e.1 names (below_left (mentions e.0 names) (all_in (map mentions (map alone es)) names) h),
    all_known es names (below_right (mentions e.0 names) (all_in (map mentions (map alone es)) names) h),
  )

  abbrev expressions : List (Pat × Known) → List (Pat × Exp)
  expressions arms = map (λ arm. (arm.0, arm.1.0)) arms

  abbrev by_scopes : List (Pat × Exp) → List (Pat × ByScope)
  by_scopes arms = map (λ arm. (arm.0, mentions arm.1)) arms

  arms_known : (arms : List (Pat × Known)) (names : List (List ℕ)) → Below (alternatives_in (by_scopes (expressions arms)) names)
      → AllArmsGo s bound (map (arm_with Exp (typing s)) (expressions arms))
  arms_known [] names h = tt
  arms_known (arm ∷ arms) names h =
      let first = below_left (pattern_mentions arm.0 ++ mentions arm.1.0 (names ++ variables_of arm.0)) (alternatives_in (by_scopes (expressions arms)) names) h in (
        arm.1.1 (names ++ variables_of arm.0) (below_right (pattern_mentions arm.0) (mentions arm.1.0 (names ++ variables_of arm.0)) first),
        arms_known arms names (below_right (pattern_mentions arm.0 ++ mentions arm.1.0 (names ++ variables_of arm.0)) (alternatives_in (by_scopes (expressions arms)) names) h),
      )

  level : (y : Exp-F Known) (names : List (List ℕ)) → Below (exp_step (map-Exp Exp ByScope mentions (parts y)) names)
      → Goes s bound (typing_step s Exp (typing s) (parts y))
  level (Exp-F.Let x a b) names h =
      goes_let s bound x _ _ (a.1 names (below_left (mentions a.0 names) (mentions b.0 (names ++ x ∷ [])) h)) (b.1 (names ++ x ∷ []) (below_right (mentions a.0 names) (mentions b.0 (names ++ x ∷ [])) h))
  level (Exp-F.If a b d) names h =
      let rest = below_right (mentions a.0 names) (mentions b.0 names ++ mentions d.0 names) h in
      goes_if s bound _ _ (b.1 names (below_left (mentions b.0 names) (mentions d.0 names) rest)) (d.1 names (below_right (mentions b.0 names) (mentions d.0 names) rest))
      _ (a.1 names (below_left (mentions a.0 names) (mentions b.0 names ++ mentions d.0 names) h))
  level (Exp-F.Case a arms) names h =
      let ms = alternatives_in (by_scopes (expressions arms)) names in
      goes_case s bound _ (a.1 names (below_left (mentions a.0 names) ms h)) _ (arms_known arms names (below_right (mentions a.0 names) ms h))
  level (Exp-F.Raise x None) names h = goes_raise s bound x
  level (Exp-F.Raise x (Some a)) names h = goes_raise_with s bound x _ (a.1 names (below_rest _ (mentions a.0 names) h))
  level (Exp-F.Binary sign a b) names h =
      goes_binary s bound _ _ (a.1 names (below_left (mentions a.0 names) (mentions b.0 names) h)) (b.1 names (below_right (mentions a.0 names) (mentions b.0 names) h)) sign
  level (Exp-F.Neg a) names h = goes_neg s bound _ (a.1 names h)
  level (Exp-F.Not a) names h = goes_not s bound _ (a.1 names h)
  level (Exp-F.App f []) names h = goes_variable s bound f
  level (Exp-F.App f (e ∷ es)) names h =
      goes_app s bound f (h f (0, omega arith, refl)) _ _ (all_known (e ∷ es) names (below_rest (Function, f) (all_in (map mentions (map alone (e ∷ es))) names) h))
  level (Exp-F.Con c es) names h = goes_con s bound _ (all_known es names (below_rest _ (all_in (map mentions (map alone es)) names) h)) c
  level (Exp-F.Update a b d) names h =
      let rest = below_right (mentions a.0 names) (mentions b.0 names ++ mentions d.0 names) h in
      goes_update s bound _ _ _ (a.1 names (below_left (mentions a.0 names) (mentions b.0 names ++ mentions d.0 names) h))
      (b.1 names (below_left (mentions b.0 names) (mentions d.0 names) rest)) (d.1 names (below_right (mentions b.0 names) (mentions d.0 names) rest))
  level (Exp-F.Num negative n) names h = goes_literal s bound negative n
  level (Exp-F.Letter b) names h = goes_letter s bound b
  level (Exp-F.Truth b) names h = goes_truth s bound b
  level (Exp-F.Paren a) names h = a.1 names h
  level (Exp-F.Tuple es) names h = goes_tuple s bound _ (all_known es names h)
  level (Exp-F.Cast a ty) names h = goes_cast s bound _ (a.1 names (below_left (mentions a.0 names) (type_mentions ty) h)) ty
  level (Exp-F.Vect es) names h = goes_vector s bound _ (all_known es names h)
  level Exp-F.Star names h = goes_star s bound

  at_roll : (y : Exp-F Known) → GoesIn (mentions (roll-Exp (parts y))) (roll-Exp (parts y))
  at_roll y names h =
      subst (Goes s bound) (sym (typing_roll s (parts y)))
      (level y names (subst (λ (by : ByScope). Below (by names)) (fold-roll-Exp ByScope exp_step (parts y)) h))

  -- an expression calls what it mentions
  pub goes : (e : Exp) → GoesIn (mentions e) e
  goes = ind-Exp (λ e. GoesIn (mentions e) e) (λ x y is. subst (λ x. GoesIn (mentions (roll-Exp x)) (roll-Exp x)) is (at_roll y))

  pub equations_call : (signature : Signature) (equations : List WrittenEquation) (cs : List CoredEquation) → InPlaces (IsEquation s signature) equations cs
      → Below (joined (map (λ (equation : WrittenEquation). clause_mentions equation.1 equation.2) equations))
      → list_all (equation_calls bound) (map erased_equation (cores_alone cs)) ≡ true
  equations_call signature [] [] h below = refl
  equations_call signature [] (c ∷ cs) h below = absurd h
  equations_call signature (x ∷ xs) [] h below = absurd h
  equations_call signature (x ∷ xs) (c ∷ cs) h below =
      let rest = joined (map (λ (equation : WrittenEquation). clause_mentions equation.1 equation.2) xs) in
      let mine = below_right (patterns_mentions x.1) (mentions x.2 (bound_by x.1)) (below_left (clause_mentions x.1 x.2) rest below) in
      let body : calls_below bound (erased h.0.body.0) ≡ true = (goes x.2 (bound_by x.1) mine).checked h.0.vars signature.gives h.0.body h.0.typed in
      let first : equation_calls bound (erased_equation c.0) ≡ true = ap (λ (c : CoredEquation). equation_calls bound (erased_equation c.0)) h.0.is ∙ body in
      let others = equations_call signature xs cs h.1 (below_right (clause_mentions x.1 x.2) rest below) in
      rw (first, others) refl

signature_name : (types : Types) (name : List ℕ) (tys : List TyExp) (signature : Signature) → signature_written types name tys ≡ Some signature → signature.name ≡ name
signature_name types name tys signature h =
    let k = given-inv (all_written types tys) (λ all. given (parted all) (λ p. Some (record { name = name; params = p.0; gives = p.1 }))) signature h in
    let m = given-inv (parted k.0) (λ p. Some (record { name = name; params = p.0; gives = p.1 })) signature k.2 in
    ap (λ (f : Signature). f.name) (sym (some-same _ _ m.2))

module _ (decls : Decls) (s : Signatures) (p : AreFunctions decls s.types s.funs) where
  abbrev number_at : ℕ → Option FunctionDecl
  number_at number = given (slice_get decls number) function_of

  abbrev name_of : Signature → List ℕ
  name_of signature = signature.name

  abbrev HasSignature : FunctionDecl → Signature → Type 0
  HasSignature f signature = signature_written s.types f.name f.types ≡ Some signature

  -- what a function mentions has smaller numbers
  pub smaller : (number : ℕ) (d : FunctionDecl) → slice_get (in_order function_of p.order decls) number ≡ Some d
      → Below s number (types_mentions d.types ++ joined (map (λ (equation : WrittenEquation). clause_mentions equation.1 equation.2) d.equations))
  smaller number d there name mention j f found =
      let place = placed number_at p.order number d there in
      let a = get_or p.order place.place 0 in
      let own = given-inv (slice_get decls a) function_of d place.gives in
      let other = from_right HasSignature _ _ p.each j f (first_stands name_of name s.funs j f found) in
      let at = declared function_of p.order decls j other.0 other.1 in
      let named : other.0.name ≡ name = sym (signature_name s.types other.0.name other.0.types f other.2) ∙ first_has_name name_of name s.funs j f found in
      let mentioned : Contains (mentions_of own.0.1) (Function, name) =
      subst (λ decl. Contains (mentions_of decl) (Function, name)) (sym (function_is own.0 d own.2)) mention in
      let names : Contains (names_of_kind Function at.1.1) name =
      subst (λ decl. Contains (names_of_kind Function decl) name) (sym (function_is at.1 other.0 at.3)) (0, omega arith, named) in
      let leads_there = leads Function refl decls a at.0 own.0 at.1 name own.1 at.2 mentioned names in
      let earlier : Contains (take place.place p.order) at.0 = (p.numbered.numbering place.place place.within).0.ready at.0 leads_there in
      let i = kept number_at (take place.place p.order) at.0 other.0 earlier (given-at (slice_get decls at.0) function_of at.1 at.2 ∙ at.3) in
      let first = from_left HasSignature _ _ p.each i.0 other.0 (kept_on number_at p.order place.place i.0 other.0 i.1) in
      let le : j ≤ i.0 = first_before name_of name s.funs i.0 first.0 first.1 (signature_name s.types other.0.name other.0.types first.0 first.2 ∙ named) j f found in
      let lt : i.0 < length (filter_map number_at (take place.place p.order)) = slice_get_within _ i.0 other.0 i.1 in
      let before : number ≡ length (filter_map number_at (take place.place p.order)) = place.before in
      omega arith

pub calls_go_down : (text : List ℕ) (program : Program) (core : Core) → IsCoreOf text program core → CallsGoDown core
calls_go_down text program core p number function there =
    let c = from_right (IsFunctionOf text p.signatures) _ _ p.funs number function there in
    let below = below_right p.signatures number (types_mentions c.0.types) _ (smaller program.decls p.signatures p.are.funs number c.0 c.1) in
    ap (list_all (equation_calls number)) c.2.equations
    ∙ equations_call p.signatures number c.2.typed.signature c.0.equations c.2.cores c.2.typed.have below

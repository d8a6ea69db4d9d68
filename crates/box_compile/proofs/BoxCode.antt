-- The code of rules and handlers, and the programs of boxes.
use Rattle.std.proofs.Common.{◌≡◌, ◌⊎◌, ℕ, zero, suc, ◌+◌, ◌<◌, ◌==◌, Bool, true, false, cond, List, [], ◌∷◌, ◌++◌, map, length, Option, Some, None, slice_get, refl, ap, sym, ◌∙◌, subst, append_assoc, arith, inl, inr}
use Rattle.std.proofs.lemmas.List.{length-append}
use Rattle.std.proofs.lemmas.Bool.{eqb-true}
use Rattle.std.specs.List.{find, filter_map, cons_option}
use Rattle.std.specs.Option.{unwrap_or, option_to_list}
use Rattle.hume_model.specs.declared.core_tree.PatC.{PatC}
use Rattle.hume_model.specs.declared.core_tree.InPat.{InPat}
use Rattle.hume_model.specs.declared.core_tree.Res.{Res}
use Rattle.hume_model.specs.declared.core_tree.RuleC.{RuleC}
use Rattle.hume_model.specs.declared.core_tree.HandC.{HandC}
use Rattle.hume_model.specs.declared.core_tree.BoxC.{BoxC}
use Rattle.hume_model.specs.declared.core_tree.NodeC.{NodeC}
use Rattle.hume_model.specs.declared.core_tree.NodeC.TheVariants.{Rules}
use Rattle.hume_model.specs.declared.core_tree.Core.{Core}
use Rattle.hume_model.specs.BoxTyping.{port_types}
use Rattle.box_costs.specs.Bounds.{built_pattern, built_patterns, box_bound}
use Rattle.box_code.specs.declared.program.BoxProgram.{BoxProgram}
use Rattle.box_code.specs.Paths.{Spot, root, spots_at, spots_from}
use Rattle.box_code.specs.Represents.{counted, FieldsStand, ResultStands, BoundResultStands, RuleStands, HandlerStands, handler_spots, FunctionsStand}
use Rattle.box_code.specs.RepresentsBox.{handler_of, RepresentsBox}
use Rattle.box_compile.proofs.Lists.{get_last}
use Rattle.box_compile.specs.Programs.{AreProgramsFor, box_in}
use Rattle.box_compile.specs.inner.Boxes.{RulesFound, HandlerFound, HandlersFound}
use Rattle.box_compile.specs.inner.Emitted.{Grows, Emitted}
use Rattle.box_compile.proofs.Appending.{grows_not, grows_more, still, changed}
use Rattle.box_compile.proofs.ResultForms.{ResultDone}

nothing_there : {X : Type 0} (y : X) → None ≡ Some y → ⊥
nothing_there y e = cc

get_stays : {X : Type 0} (xs ys : List X) (i : ℕ) (y : X) → slice_get xs i ≡ Some y → slice_get (xs ++ ys) i ≡ Some y
get_stays [] ys i y e = absurd (nothing_there y e)
get_stays (x ∷ xs) ys zero y e = e
get_stays (x ∷ xs) ys (suc i) y e = get_stays xs ys i y e

unwrap : {X : Type 0} (x y : X) → Some x ≡ Some y → x ≡ y
unwrap x y e = cc

-- what is at a place, with one more item at the end
pub old_or_last : {X : Type 0} (xs : List X) (x : X) (i : ℕ) (y : X) → slice_get (xs ++ x ∷ []) i ≡ Some y
    → (slice_get xs i ≡ Some y) ⊎ ((i ≡ length xs) × (x ≡ y))
old_or_last [] x zero y e = inr (refl, unwrap x y e)
old_or_last [] x (suc i) y e = absurd (nothing_there y e)
old_or_last (z ∷ xs) x zero y e = inl e
old_or_last (z ∷ xs) x (suc i) y e = elim (old_or_last xs x i y e) [
  | inl old ↦ inl old
  | inr last ↦ inr (let l = last.0 in omega (arith, l), last.1)
]

pub there_is : {X : Type 0} (xs : List X) (i : ℕ) → i < length xs → (x : X) × (slice_get xs i ≡ Some x)
there_is [] i low = absurd (omega (arith, low))
there_is (x ∷ xs) zero low = (x, refl)
there_is (x ∷ xs) (suc i) low = there_is xs i (omega (arith, low))

get_map : {X Y : Type 0} (f : X → Y) (xs : List X) (i : ℕ) (x : X) → slice_get xs i ≡ Some x → slice_get (map f xs) i ≡ Some (f x)
get_map f [] i x e = absurd (nothing_there x e)
get_map f (y ∷ xs) zero x e = ap Some (ap f (unwrap y x e))
get_map f (y ∷ xs) (suc i) x e = get_map f xs i x e

module _ {entry : ℕ → Option ℕ} where
  pub bound_done : {a b c : List ℕ} (high variables inside : ℕ) (places : List ℕ) (spots : List Spot) (outcome : Res) → variables ≡ length spots
      → places ≡ counted high variables
      → inside ≡ high + variables → Emitted a b (λ code from to. FieldsStand code high from to spots) → ResultDone entry places inside b c outcome
      → Emitted a c (λ code from to. BoundResultStands code entry high spots outcome from)
  bound_done {b = b} {c = c} high variables inside places spots outcome many places_is inside_is e f = record {
    grown = grows_more e.grown f.grown;
    stands = λ code grows. record {
      bound = length b;
      to = length c;
      fields = still e f.grown code grows;
      result_stands =
          (let x : places ≡ counted high (length spots) = places_is ∙ ap (counted high) many in
          let y : inside ≡ high + length spots = inside_is ∙ ap (λ k. high + k) many in
          subst (λ k. ResultStands code entry k (high + length spots) (length b) (length c) outcome) x
          (subst (λ k. ResultStands code entry places k (length b) (length c) outcome) y (f.stands code grows)));
    };
  }

  pub rule_done : {a b : List ℕ} (rule : RuleC) (place count : ℕ) (pats : List InPat) (spots found : List Spot) → place ≡ length a → pats ≡ rule.pats
      → count ≡ length (built_patterns pats)
      → found ≡ spots → spots ≡ spots_from (built_patterns pats) 0 → Emitted a b (λ code from to. BoundResultStands code entry count found rule.result from)
      → Emitted a b (λ code from to. RuleStands code entry rule place)
  rule_done {a = a} rule place count pats spots found at same many same_spots is e =
      changed (λ code s.
      subst (λ k. RuleStands code entry rule k) (sym at)
      (subst (λ k. BoundResultStands code entry (length (built_patterns rule.pats)) k rule.result (length a)) (same_spots ∙ is
      ∙ ap (λ (p : List InPat). spots_from (built_patterns p) 0) same)
      (subst (λ k. BoundResultStands code entry k found rule.result (length a)) (many ∙ ap (λ (p : List InPat). length (built_patterns p)) same) s))) e

  pub handler_done : {a b : List ℕ} (handler : HandC) (place : ℕ) (spots found : List Spot) → place ≡ length a → found ≡ spots → spots ≡ handler_spots handler
      → Emitted a b (λ code from to. BoundResultStands code entry 1 found handler.result from) → Emitted a b
      (λ code from to. HandlerStands code entry handler place)
  handler_done {a = a} handler place spots found at same is e =
      changed (λ code s.
      subst (λ k. HandlerStands code entry handler k) (sym at)
      (subst (λ k. BoundResultStands code entry 1 k handler.result (length a)) (same ∙ is) s)) e

  pub no_rules : {a : List ℕ} → Emitted a a (λ code from to. RulesFound code entry [] [])
  no_rules = record { grown = grows_not; stands = λ code grows. record { count = refl; each = λ number rule found. absurd (nothing_there rule found) } }

  rules_last : {code : List ℕ} (places : List ℕ) (place : ℕ) (rules : List RuleC) (rule : RuleC) → RulesFound code entry places rules
      → RuleStands code entry rule place
      → RulesFound code entry (places ++ place ∷ []) (rules ++ rule ∷ [])
  rules_last {code = code} places place rules rule old new = record {
    count = length-append places (place ∷ []) ∙ ap (λ k. k + 1) old.count ∙ sym (length-append rules (rule ∷ []));
    each = λ number r found. elim (old_or_last rules rule number r found) [
      | inl before ↦ (let f = old.each number r before in record {
        place = f.place;
        begins = get_stays places
            (place ∷ []) number f.place f.begins;
        stands = f.stands;
      })
      | inr last ↦ record {
        place = place;
        begins = get_last places place number (last.0 ∙ sym old.count);
        stands = subst (λ (x : RuleC). RuleStands code entry x place) last.1 new;
      }
    ];
  }

  pub rules_more : {a b c : List ℕ} (places all : List ℕ) (place : ℕ) (rules : List RuleC) (rule : RuleC) → all ≡ places ++ place ∷ []
      → Emitted a b (λ code from to. RulesFound code entry places rules) → Emitted b c (λ code from to. RuleStands code entry rule place)
      → Emitted a c (λ code from to. RulesFound code entry all (rules ++ rule ∷ []))
  rules_more places all place rules rule is e f = record {
    grown = grows_more e.grown f.grown;
    stands = λ code grows. subst (λ k. RulesFound code entry k (rules ++ rule ∷ [])) (sym is) (rules_last places place rules rule
        (still e f.grown code grows) (f.stands code grows));
  }

  pub handler_none : {a : List ℕ} → Emitted a a (λ code from to. HandlerFound code entry None None)
  handler_none = record { grown = grows_not; stands = λ code grows. HandlerFound.none }

  pub handler_some : {a b : List ℕ} (handler : HandC) (place : ℕ) → Emitted a b (λ code from to. HandlerStands code entry handler place)
      → Emitted a b (λ code from to. HandlerFound code entry (Some handler) (Some place))
  handler_some handler place e = changed (λ code s. HandlerFound.some handler place s) e

  pub no_handlers : {a : List ℕ} (b : BoxC) → Emitted a a (λ code from to. HandlersFound code entry b [] 0)
  no_handlers b = record { grown = grows_not; stands = λ code grows. record { count = refl; each = λ exn place found. absurd (nothing_there place found) } }

  handlers_last : {code : List ℕ} (b : BoxC) (found : List (Option ℕ)) (exn next : ℕ) (place : Option ℕ) → next ≡ exn + 1 → HandlersFound code entry b found exn
      → HandlerFound code entry (handler_of b exn) place → HandlersFound code entry b (found ++ place ∷ []) next
  handlers_last {code = code} b found exn next place is old new = record {
    count = length-append found (place ∷ []) ∙ ap (λ k. k + 1) old.count ∙ sym is;
    each = λ x p at. elim (old_or_last found place x p at) [
      | inl before ↦ old.each x p before
      | inr last ↦ subst (λ (y : Option ℕ). HandlerFound code entry (handler_of b x) y) last.1
          (subst (λ k. HandlerFound code entry (handler_of b k) place) (sym (last.0 ∙ old.count)) new)
    ];
  }

  pub handlers_more : {a b c : List ℕ} (box : BoxC) (found all : List (Option ℕ)) (exn next : ℕ) (place : Option ℕ) → next ≡ exn + 1 → all ≡ found ++ place ∷ []
      → Emitted a b (λ code from to. HandlersFound code entry box found exn) → Emitted b c (λ code from to. HandlerFound code entry (handler_of box exn) place)
      → Emitted a c (λ code from to. HandlersFound code entry box all next)
  handlers_more box found all exn next place so is e f = record {
    grown = grows_more e.grown f.grown;
    stands = λ code grows. subst (λ (k : List (Option ℕ)). HandlersFound code entry box k next) (sym is)
        (handlers_last box found exn next place so (still e f.grown code grows) (f.stands code grows));
  }

  handler_there : {code : List ℕ} {wanted : Option HandC} {at : Option ℕ} → HandlerFound code entry wanted at → (handler : HandC) → wanted ≡ Some handler
      → (place : ℕ) × (at ≡ Some place) × HandlerStands code entry handler place
  handler_there HandlerFound.none handler is = absurd (nothing_there handler is)
  handler_there {code = code} (HandlerFound.some h place stands) handler is = (
    place,
    refl,
    subst (λ (x : HandC). HandlerStands code entry x place)
        (unwrap h handler is) stands,
  )

  handler_absent : {code : List ℕ} {wanted : Option HandC} {at : Option ℕ} → HandlerFound code entry wanted at → wanted ≡ None → at ≡ None
  handler_absent HandlerFound.none is = refl
  handler_absent (HandlerFound.some h place stands) is = absurd (nothing_there h (sym is))

  -- the program of a box
  pub box_done : {w a b c : List ℕ} (core : Core) (box : BoxC) (program : BoxProgram) (found : List (Option ℕ)) (exceptions end : ℕ)
      → Emitted w a (λ code from to. FunctionsStand code entry core) → Emitted a b (λ code from to. RulesFound code entry program.rules box.rules)
      → Emitted b c (λ code from to. HandlersFound code entry box found exceptions) → program.code.words ≡ c → exceptions ≡ length core.exns → end ≡ length c
      → program.handlers ≡ map (λ (place : Option ℕ). unwrap_or place end) found
      → ((exn : ℕ) (handler : HandC) → handler_of box exn ≡ Some handler → exn < exceptions)
      → program.outs ≡ port_types box.outs → program.heap ≡ (box_bound core box).heap
      → program.stack ≡ (box_bound core box).stack → program.work ≡ (box_bound core box).work
      → RepresentsBox core box program
  box_done {c = c} core box program found exceptions end ef er eh words many ends handlers known outs heap stack work =
      let code = program.code.words in
      let grows : Grows c code = subst (λ k. Grows c k) (sym words) grows_not in
      let f = still ef (grows_more er.grown eh.grown) code grows in
      let r = still er eh.grown code grows in
      let h = eh.stands code grows in
      record {
        entry = entry;
        functions = f;
        rules = λ number rule there. (let x = r.each number rule there in record { place = x.place; begins = x.begins; stands = x.stands });
        handlers = λ exn handler is.
            (let low = known exn handler is in
            let at = there_is found exn (let n = h.count in omega (arith, low, n)) in
            let x = handler_there (h.each exn at.0 at.1) handler is in
            record {
              place = x.0;
              begins = ap (λ l. slice_get l exn) handlers ∙ get_map (λ (place : Option ℕ). unwrap_or place end) found exn at.0 at.1
                  ∙ ap (λ (o : Option ℕ). Some (unwrap_or o end)) x.1;
              stands = x.2;
            });
        others = λ exn low is.
            (let at = there_is found exn (let n = h.count in omega (arith, low, n, many)) in
            let x = handler_absent (h.each exn at.0 at.1) is in
            ap (λ l. slice_get l exn) handlers ∙ get_map (λ (place : Option ℕ). unwrap_or place end) found exn at.0 at.1
            ∙ ap (λ (o : Option ℕ). Some (unwrap_or o end)) x
            ∙ ap Some (ends ∙ ap length (sym words)));
        outs = outs;
        heap = heap;
        stack = stack;
        work = work;
      }

-- which exceptions handlers are for
in_rest : (b : Bool) (x : HandC) (more rest : Option HandC) (handler : HandC) (X : Type 0) → (more ≡ Some handler → (rest ≡ Some handler) ⊎ X)
    → cond b (Some x) more ≡ Some handler → (cond b (Some x) rest ≡ Some handler) ⊎ X
in_rest true x more rest handler X go s = inl s
in_rest false x more rest handler X go s = go s

found_last : (exn : ℕ) (handlers : List HandC) (h handler : HandC) → find (λ (x : HandC). x.exn == exn) (handlers ++ h ∷ []) ≡ Some handler
    → (find (λ (x : HandC). x.exn == exn) handlers ≡ Some handler) ⊎ (h.exn ≡ exn)
found_last exn [] h handler is = at (h.exn == exn) refl is
  where
    at : (b : Bool) → (h.exn == exn) ≡ b → cond b (Some h) None ≡ Some handler → (None ≡ Some handler) ⊎ (h.exn ≡ exn)
    at true e s = inr (eqb-true h.exn exn e)
    at false e s = inl s
found_last exn (x ∷ xs) h handler is = in_rest (x.exn == exn) x (find (λ (x : HandC). x.exn == exn) (xs ++ h ∷ [])) (find (λ
    (x : HandC). x.exn == exn) xs) handler (h.exn ≡ exn) (found_last exn xs h handler) is

pub known_more : (exceptions : ℕ) (handlers : List HandC) (h : HandC) → h.exn < exceptions
    → ((exn : ℕ) (handler : HandC) → find (λ (x : HandC). x.exn == exn) handlers ≡ Some handler → exn < exceptions)
    → (exn : ℕ) (handler : HandC) → find (λ (x : HandC). x.exn == exn) (handlers ++ h ∷ []) ≡ Some handler → exn < exceptions
known_more exceptions handlers h low old exn handler is = elim (found_last exn handlers h handler is) [
  | inl before ↦ old exn handler before
  | inr same ↦ omega (arith, low, same)
]

cons_more : {Y : Type 0} (o : Option Y) (a b c : List Y) → a ≡ b ++ c → cons_option o a ≡ cons_option o b ++ c
cons_more None a b c is = is
cons_more (Some y) a b c is = ap (λ k. y ∷ k) is

one_option : {Y : Type 0} (o : Option Y) → cons_option o [] ≡ option_to_list o
one_option None = refl
one_option (Some y) = refl

-- what is kept of one item more
pub filter_last : {X Y : Type 0} (h : X → Option Y) (xs : List X) (x : X) → filter_map h (xs ++ x ∷ []) ≡ filter_map h xs ++ option_to_list (h x)
filter_last h [] x = one_option (h x)
filter_last h (y ∷ ys) x = cons_more (h y) (filter_map h (ys ++ x ∷ [])) (filter_map h ys) (option_to_list (h x)) (filter_last h ys x)

spots_both : (ps qs : List PatC) (start at : ℕ) → at ≡ start + length ps → spots_from (ps ++ qs) start ≡ spots_from ps start ++ spots_from qs at
spots_both [] qs start at is = ap (spots_from qs) (let e : start ≡ at = omega (arith, is) in e)
spots_both (p ∷ ps) qs start at is =
    ap (λ k. spots_at p (root start) ++ k) (spots_both ps qs (suc start) at (omega (arith, is)))
    ∙ sym (append_assoc (spots_at p (root start)) (spots_from ps (suc start)) (spots_from qs at))

-- one position more
pub position_more : (pats : List InPat) (pat : InPat) (count new : ℕ) (found all : List Spot) → count ≡ length (built_patterns pats)
    → found ≡ spots_from (built_patterns pats) 0
    → new ≡ count + length (option_to_list (built_pattern pat)) → all ≡ found ++ spots_from (option_to_list (built_pattern pat)) count
    → (new ≡ length (built_patterns (pats ++ pat ∷ []))) × (all ≡ spots_from (built_patterns (pats ++ pat ∷ [])) 0)
position_more pats pat count new found all many so new_is all_is =
    let last : built_patterns (pats ++ pat ∷ []) ≡ built_patterns pats ++ option_to_list (built_pattern pat) = filter_last built_pattern pats pat in
    let longer = length-append (built_patterns pats) (option_to_list (built_pattern pat)) in (
      new_is ∙ ap (λ k. k + length (option_to_list (built_pattern pat))) many ∙ sym longer ∙ sym (ap length last),
      all_is ∙ ap (λ k. k ++ spots_from (option_to_list (built_pattern pat)) count) so
          ∙ sym (ap (λ l. spots_from l 0) last ∙ spots_both (built_patterns pats) (option_to_list (built_pattern pat)) 0 count (let e : count ≡ 0 + length
          (built_patterns pats) = omega (arith, many) in e)),
    )

-- one program more
pub one_program : (core : Core) (boxes : List BoxC) (programs all : List BoxProgram) (b : BoxC) (program : BoxProgram) → all ≡ programs ++ program ∷ []
    → RepresentsBox core b program
    → AreProgramsFor core boxes programs → AreProgramsFor core (boxes ++ b ∷ []) all
one_program core boxes programs all b program is new old =
    subst (λ (k : List BoxProgram). AreProgramsFor core (boxes ++ b ∷ []) k) (sym is)
    (record {
      count = length-append programs (program ∷ []) ∙ ap (λ k. k + 1) old.count ∙ sym (length-append boxes (b ∷ []));
      each = λ number x found. elim (old_or_last boxes b number x found) [
        | inl before ↦ (let f = old.each number x before in record {
          program = f.program;
          at = get_stays programs
              (program ∷ []) number f.program f.at;
          represents = f.represents;
        })
        | inr last ↦ record {
          program = program;
          at = get_last programs program number (last.0 ∙ sym old.count);
          represents = subst (λ (y : BoxC). RepresentsBox core y program) last.1 new;
        }
      ];
    })

pub no_programs : (core : Core) → AreProgramsFor core [] []
no_programs core = record { count = refl; each = λ number b found. absurd (nothing_there b found) }

-- the node's program more, if it is a box
pub node_program : (core : Core) (boxes : List BoxC) (programs all : List BoxProgram) (node : NodeC) (b : BoxC) (program : BoxProgram) → node ≡ Rules b
    → all ≡ programs ++ program ∷ []
    → RepresentsBox core b program → AreProgramsFor core boxes programs → AreProgramsFor core (boxes ++ option_to_list (box_in node)) all
node_program core boxes programs all node b program same is new old =
    subst (λ (n : NodeC). AreProgramsFor core (boxes ++ option_to_list (box_in n)) all) (sym same) (one_program core boxes programs all b program is new old)

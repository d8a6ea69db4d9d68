-- Reading a program line by line: what the loop keeps.
use Rattle.std.proofs.Common.{◌≡◌, ℕ, ◌-◌, ◌<◌, List, [], ◌∷◌, ◌++◌, length, map, drop, true, false, refl, sym, ap, ◌∙◌, arith, length-append, append_assoc, append-nil}
use Rattle.hume_base.specs.declared.limits.TheConstants.{MAX_DEPTH}
use Rattle.std.specs.Prelude.{Result, Ok, Err, Option, Some, None}
use Rattle.std.proofs.lemmas.List.{drop-drop, map-append}
use Rattle.hume_base.specs.declared.token.Kind.{Kind}
use Rattle.hume_base.specs.declared.token.Token.{Token}
use Rattle.hume_base.specs.declared.symbol.Symbol.TheVariants as symbol
use Rattle.hume_base.specs.declared.token.Kind.TheVariants.{Lower, Sign}
use Rattle.hume_ast.specs.declared.tree.Pat.{Pat}
use Rattle.hume_ast.specs.declared.tree.Exp.{Exp}
use Rattle.hume_ast.specs.declared.tree.Decl.{Decl}
use Rattle.hume_ast.specs.declared.tree.Decl.TheVariants.{Fun}
use Rattle.hume_ast.specs.Spelling.{spelled_equation, spelled_decl, separated, spelled_ty, beside}
use Rattle.hume_ast.specs.Places.{unplaced, placed, first_place}
use Rattle.parse_errors.specs.declared.stop.Stop.{Stop}
use Rattle.parse_items.specs.declared.progress.OpenFunction.{OpenFunction}
use Rattle.parse_items.specs.declared.progress.Progress.{Progress}
use Rattle.hume_ast.specs.Places.{kinds}
use Rattle.parse_errors.specs.inner.Gives.{Fails}
use Rattle.parse_items.specs.inner.Items.{wants}
use Rattle.parse_items.specs.inner.Progress.{place_with, place_behind, as_decl, closed, with_equation, took}
use Rattle.parse_readers.specs.inner.Readers.{Wrong, ◌>>=◌}
use Rattle.parse_readers.specs.inner.Items.{Item as Line, Whole, Signature, Equation, Expecting as Place, Outside, Wanting, Within, expecting_after as place_after, no_items as no_lines, item as line, items as lines}
use Rattle.parse_readers.specs.inner.Programs.{Gathered, with_line, gathered, program}
use Rattle.parse_readers.proofs.ItemsRead.{spelled_item as spelled_line, MayStand, item_reads as line_reads}
use Rattle.parse_readers.proofs.AllItemsRead.{items_end as lines_end, items_turn as lines_turn}
use Rattle.parse_readers.proofs.ProgramsRead.{all_tokens}
use Rattle.parse_errors.proofs.ReportedPlaces.{kinds_length}
use Rattle.parse_expressions.proofs.Loops.{fails_on}

abbrev Equations : Type 0
Equations = List (List ℕ × List Pat × Exp)

-- what a function and lines behind it declare
abbrev pub finished : Option OpenFunction → Gathered → List Decl
finished None more = more.1
finished (Some function) more = Fun function.name function.types (function.equations ++ more.0) ∷ more.1

-- what a program is, when these lines are still to come
abbrev pub ending : Progress → Result (List Line × List Kind) Wrong → Result (List Decl × List Kind) Wrong
ending progress read = read >>= λ x. Ok (unplaced progress.decls ++ finished progress.function (gathered x.0), x.1)

unplaced_append : (xs ys : List (ℕ × Decl)) → unplaced (xs ++ ys) ≡ unplaced xs ++ unplaced ys
unplaced_append xs ys = map-append (λ (decl : ℕ × Decl). decl.1) xs ys

finished_none : (function : Option OpenFunction) (decls : List Decl) → finished function ([], decls) ≡ unplaced (as_decl function) ++ decls
finished_none None decls = refl
finished_none (Some f) decls = ap (λ (es : Equations). Fun f.name f.types es ∷ decls) (append-nil f.equations)

-- closed is what it ends with where no equations come
closed_finished : (progress : Progress) (decls : List Decl) → unplaced progress.decls ++ finished progress.function ([], decls) ≡ unplaced (closed progress) ++ decls
closed_finished progress decls =
    ap (λ l. unplaced progress.decls ++ l) (finished_none progress.function decls)
    ∙ sym (append_assoc (unplaced progress.decls) (unplaced (as_decl progress.function)) decls)
    ∙ ap (λ l. l ++ decls) (sym (unplaced_append progress.decls (as_decl progress.function)))

-- one more line makes no difference to what is declared in the end
line_taken : (place : ℕ) (l : Line) (progress : Progress) (more : Gathered) → MayStand (place_behind progress.function) l
    → unplaced progress.decls ++ finished progress.function (with_line l more) ≡ unplaced (took place l progress).decls ++ finished (took place l progress).function more
line_taken place (Whole decl) progress more h =
    closed_finished progress (decl ∷ more.1)
    ∙ sym (append_assoc (unplaced (closed progress)) (decl ∷ []) more.1)
    ∙ ap (λ l. l ++ more.1) (sym (unplaced_append (closed progress) ((place, decl) ∷ [])))
line_taken place (Signature name types) progress more h = closed_finished progress (Fun name types more.0 ∷ more.1)
line_taken place (Equation parts) progress more h = ap (λ l. unplaced progress.decls ++ l) (joined_to progress.function h) where
  joined_to : (function : Option OpenFunction) → MayStand (place_behind function) (Equation parts) → finished function (with_line (Equation parts) more) ≡ finished (with_equation parts function) more
  joined_to None h = absurd h
  joined_to (Some f) h = ap (λ (es : Equations). Fun f.name f.types es ∷ more.1) (sym (append_assoc f.equations (parts ∷ []) more.0))

some_behind : (equations : Equations) (parts : List ℕ × List Pat × Exp) → place_with (equations ++ parts ∷ []) ≡ Within
some_behind [] parts = refl
some_behind (e ∷ equations) parts = refl

-- where the line behind this one stands
next_place : (place : ℕ) (l : Line) (progress : Progress) → MayStand (place_behind progress.function) l → place_behind (took place l progress).function ≡ place_after l
next_place place (Whole decl) progress h = refl
next_place place (Signature name types) progress h = refl
next_place place (Equation parts) progress h = within progress.function h where
  within : (function : Option OpenFunction) → MayStand (place_behind function) (Equation parts) → place_behind (with_equation parts function) ≡ Within
  within None h = absurd h
  within (Some f) h = some_behind f.equations parts

ending_turn : (place : ℕ) (l : Line) (progress : Progress) → MayStand (place_behind progress.function) l → (r : Result (List Line × List Kind) Wrong)
    → ending progress (r >>= λ others. Ok (l ∷ others.0, others.1)) ≡ ending (took place l progress) r
ending_turn place l progress h (Ok x) = ap (λ decls. Ok (decls, x.1)) (line_taken place l progress (gathered x.0) h)
ending_turn place l progress h (Err n) = refl

tokens_append : (xs ys : List Decl) → all_tokens (xs ++ ys) ≡ all_tokens xs ++ all_tokens ys
tokens_append [] ys = refl
tokens_append (x ∷ xs) ys = ap (λ m. spelled_decl x ++ m) (tokens_append xs ys) ∙ sym (append_assoc (spelled_decl x) (all_tokens xs) (all_tokens ys))

-- one more declaration stands where the tokens of those in front end
placed_last : (tokens : List Token) (xs : List Decl) (decl : Decl) → placed tokens (xs ++ decl ∷ []) ≡ placed tokens xs ++ (first_place (drop (length (all_tokens xs)) tokens), decl) ∷ []
placed_last tokens [] decl = refl
placed_last tokens (x ∷ xs) decl =
    ap (λ l. (first_place tokens, x) ∷ l)
    (placed_last (drop (length (spelled_decl x)) tokens) xs decl
    ∙ ap (λ (ts : List Token). placed (drop (length (spelled_decl x)) tokens) xs ++ (first_place ts, decl) ∷ [])
    (drop-drop (length (all_tokens xs)) (length (spelled_decl x)) tokens ∙ ap (λ n. drop n tokens) (sym (length-append (spelled_decl x) (all_tokens xs)))))

-- the tokens behind what is declared
abbrev pub behind_all : List Token → List (ℕ × Decl) → List Token
behind_all all decls = drop (length (all_tokens (unplaced decls))) all

abbrev pub StandsAt : ℕ → Option OpenFunction → Type 0
StandsAt at None = Unit {0}
StandsAt at (Some function) = function.place ≡ at

-- what the loop keeps
pub record Running (all : List Token) (progress : Progress) (rest : List Token) : Type 0 where
  pub reads : program MAX_DEPTH (kinds all) ≡ ending progress (lines MAX_DEPTH (place_behind progress.function) (kinds rest))
  pub decls : progress.decls ≡ placed all (unplaced progress.decls)
  pub function : StandsAt (first_place (behind_all all progress.decls)) progress.function
  pub left : rest ≡ behind_all all (closed progress)

-- all that is declared has its places
pub closed_placed : (all : List Token) (progress : Progress) → progress.decls ≡ placed all (unplaced progress.decls) → StandsAt (first_place (behind_all all progress.decls)) progress.function → closed progress ≡ placed all (unplaced (closed progress))
closed_placed all progress d f = by progress.function f where
  by : (function : Option OpenFunction) → StandsAt (first_place (behind_all all progress.decls)) function → progress.decls ++ as_decl function ≡ placed all (unplaced (progress.decls ++ as_decl function))
  by None f = append-nil progress.decls ∙ d ∙ ap (λ l. placed all (unplaced l)) (sym (append-nil progress.decls))
  by (Some function) f =
      let decl = Fun function.name function.types function.equations in
      ap (λ l. l ++ (function.place, decl) ∷ []) d
      ∙ ap (λ at. placed all (unplaced progress.decls) ++ (at, decl) ∷ []) f
      ∙ sym (placed_last all (unplaced progress.decls) decl)
      ∙ ap (placed all) (sym (unplaced_append progress.decls ((function.place, decl) ∷ [])))

equations_append : (xs : Equations) (parts : List ℕ × List Pat × Exp) → beside (map spelled_equation (xs ++ parts ∷ [])) ≡ beside (map spelled_equation xs) ++ spelled_equation parts
equations_append [] parts = append-nil (spelled_equation parts)
equations_append (x ∷ xs) parts = ap (λ m. spelled_equation x ++ m) (equations_append xs parts) ∙ sym (append_assoc (spelled_equation x) (beside (map spelled_equation xs)) (spelled_equation parts))

closed_tokens : (decls : List (ℕ × Decl)) (function : Option OpenFunction) → all_tokens (unplaced (decls ++ as_decl function)) ≡ all_tokens (unplaced decls) ++ all_tokens (unplaced (as_decl function))
closed_tokens decls function = ap all_tokens (unplaced_append decls (as_decl function)) ∙ tokens_append (unplaced decls) (unplaced (as_decl function))

-- one more line, and its tokens
line_tokens : (place : ℕ) (l : Line) (progress : Progress) → MayStand (place_behind progress.function) l → all_tokens (unplaced (closed (took place l progress))) ≡ all_tokens (unplaced (closed progress)) ++ spelled_line l
line_tokens place (Whole decl) progress h =
    closed_tokens (closed progress ++ (place, decl) ∷ []) None
    ∙ append-nil (all_tokens (unplaced (closed progress ++ (place, decl) ∷ [])))
    ∙ ap all_tokens (unplaced_append (closed progress) ((place, decl) ∷ []))
    ∙ tokens_append (unplaced (closed progress)) (decl ∷ [])
    ∙ ap (λ m. all_tokens (unplaced (closed progress)) ++ m) (append-nil (spelled_decl decl))
line_tokens place (Signature name types) progress h =
    closed_tokens (closed progress) (took place (Signature name types) progress).function
    ∙ ap (λ m. all_tokens (unplaced (closed progress)) ++ m) (append-nil (spelled_decl (Fun name types [])))
line_tokens place (Equation parts) progress h = by progress.function h where
  by : (function : Option OpenFunction) → MayStand (place_behind function) (Equation parts) → all_tokens (unplaced (progress.decls ++ as_decl (with_equation parts function))) ≡ all_tokens (unplaced (progress.decls ++ as_decl function)) ++ spelled_equation parts
  by None h = absurd h
  by (Some f) h =
      let front = all_tokens (unplaced progress.decls) in
      closed_tokens progress.decls (with_equation parts (Some f))
      ∙ ap (λ m. front ++ m) (grown f)
      ∙ sym (append_assoc front (all_tokens (unplaced (as_decl (Some f)))) (spelled_equation parts))
      ∙ ap (λ m. m ++ spelled_equation parts) (sym (closed_tokens progress.decls (Some f))) where
        longer : (f : OpenFunction) → spelled_decl (Fun f.name f.types (f.equations ++ parts ∷ [])) ≡ spelled_decl (Fun f.name f.types f.equations) ++ spelled_equation parts
        longer f =
            let types = separated symbol.Arrow (map spelled_ty f.types) in
            ap (λ m. Lower f.name ∷ Sign symbol.DoubleColon ∷ (types ++ Sign symbol.Semicolon ∷ m)) (equations_append f.equations parts)
            ∙ ap (λ m. Lower f.name ∷ Sign symbol.DoubleColon ∷ m) (sym (append_assoc types (Sign symbol.Semicolon ∷ beside (map spelled_equation f.equations)) (spelled_equation parts)))

        grown : (f : OpenFunction) → all_tokens (unplaced (as_decl (with_equation parts (Some f)))) ≡ all_tokens (unplaced (as_decl (Some f))) ++ spelled_equation parts
        grown f =
            append-nil (spelled_decl (Fun f.name f.types (f.equations ++ parts ∷ [])))
            ∙ longer f
            ∙ ap (λ m. m ++ spelled_equation parts) (sym (append-nil (spelled_decl (Fun f.name f.types f.equations))))

module _ (all : List Token) (progress : Progress) (rest : List Token) (running : Running all progress rest) where
  -- a line that is read may stand here, and its tokens are in front
  module _ (l : Line) (after : List Token) (is : line MAX_DEPTH (place_behind progress.function) (kinds rest) ≡ Ok (l, kinds after)) where
    may_stand : MayStand (place_behind progress.function) l
    may_stand = ((line_reads MAX_DEPTH (place_behind progress.function)).sound (kinds rest) (l, kinds after) is).0.0

    taken : length rest - length after ≡ length (spelled_line l)
    taken =
        let s = ((line_reads MAX_DEPTH (place_behind progress.function)).sound (kinds rest) (l, kinds after) is).1 in
        omega (arith, ap length s, length-append (spelled_line l) (kinds after), kinds_length rest, kinds_length after)

    pub running_turn : 0 < length rest → after ≡ drop (length rest - length after) rest → Running all (took (first_place rest) l progress) after
    running_turn some cut = record {
      reads =
          running.reads
          ∙ ap (ending progress) (lines_turn MAX_DEPTH (place_behind progress.function) (kinds rest) (omega (arith, some, kinds_length rest)))
          ∙ ap (λ r. ending progress (r >>= λ x. lines MAX_DEPTH (place_after x.0) x.1 >>= λ others. Ok (x.0 ∷ others.0, others.1))) is
          ∙ ending_turn (first_place rest) l progress may_stand (lines MAX_DEPTH (place_after l) (kinds after))
          ∙ ap (λ p. ending (took (first_place rest) l progress) (lines MAX_DEPTH p (kinds after))) (sym (next_place (first_place rest) l progress may_stand));
      decls = decls_kept l;
      function = function_kept l;
      left =
          cut ∙ ap (λ n. drop n rest) taken ∙ ap (drop (length (spelled_line l))) running.left
          ∙ drop-drop (length (spelled_line l)) (length (all_tokens (unplaced (closed progress)))) all
          ∙ ap (λ n. drop n all) (sym (ap length (line_tokens (first_place rest) l progress may_stand) ∙ length-append (all_tokens (unplaced (closed progress))) (spelled_line l)));
    } where
      closed_kept : closed progress ≡ placed all (unplaced (closed progress))
      closed_kept = closed_placed all progress running.decls running.function

      here : first_place rest ≡ first_place (behind_all all (closed progress))
      here = ap first_place running.left

      decls_kept : (l : Line) → (took (first_place rest) l progress).decls ≡ placed all (unplaced (took (first_place rest) l progress).decls)
      decls_kept (Whole decl) =
          ap (λ l. l ++ (first_place rest, decl) ∷ []) closed_kept
          ∙ ap (λ at. placed all (unplaced (closed progress)) ++ (at, decl) ∷ []) here
          ∙ sym (placed_last all (unplaced (closed progress)) decl)
          ∙ ap (placed all) (sym (unplaced_append (closed progress) ((first_place rest, decl) ∷ [])))
      decls_kept (Signature name types) = closed_kept
      decls_kept (Equation parts) = running.decls

      same_place : (parts : List ℕ × List Pat × Exp) (at : ℕ) (function : Option OpenFunction) → StandsAt at function → StandsAt at (with_equation parts function)
      same_place parts at None f = tt
      same_place parts at (Some function) f = f

      function_kept : (l : Line) → StandsAt (first_place (behind_all all (took (first_place rest) l progress).decls)) (took (first_place rest) l progress).function
      function_kept (Whole decl) = tt
      function_kept (Signature name types) = here
      function_kept (Equation parts) = same_place parts (first_place (behind_all all progress.decls)) progress.function running.function

  pub running_fails : (stop : Stop) → 0 < length rest → Fails stop (line MAX_DEPTH (place_behind progress.function) (kinds rest)) → Fails stop (program MAX_DEPTH (kinds all))
  running_fails stop some f = fails_on stop (line MAX_DEPTH (place_behind progress.function) (kinds rest)) (program MAX_DEPTH (kinds all)) (λ n e.
      running.reads
      ∙ ap (ending progress) (lines_turn MAX_DEPTH (place_behind progress.function) (kinds rest) (omega (arith, some, kinds_length rest)))
      ∙ ap (λ r. ending progress (r >>= λ x. lines MAX_DEPTH (place_after x.0) x.1 >>= λ others. Ok (x.0 ∷ others.0, others.1))) e) f

  module _ (over : rest ≡ []) where
    at_end : program MAX_DEPTH (kinds all) ≡ ending progress (no_lines (place_behind progress.function) [])
    at_end = running.reads ∙ ap (λ (ts : List Token). ending progress (lines MAX_DEPTH (place_behind progress.function) (kinds ts))) over ∙ ap (ending progress) (lines_end MAX_DEPTH (place_behind progress.function))

    pub running_wants : wants (place_behind progress.function) ≡ true → program MAX_DEPTH (kinds all) ≡ Err (false, 0)
    running_wants w = at_end ∙ ap (ending progress) (by (place_behind progress.function) w) where
      by : (place : Place) → wants place ≡ true → no_lines place [] ≡ Err (false, 0)
      by Outside w = cc
      by Wanting w = refl
      by Within w = cc

    pub running_ends : wants (place_behind progress.function) ≡ false → program MAX_DEPTH (kinds all) ≡ Ok (unplaced (closed progress), [])
    running_ends w = at_end ∙ ap (ending progress) (by (place_behind progress.function) w) ∙ ap (λ decls. Ok (decls, [])) (closed_finished progress [] ∙ append-nil (unplaced (closed progress))) where
      by : (place : Place) → wants place ≡ false → no_lines place [] ≡ Ok ([], [])
      by Outside w = refl
      by Wanting w = cc
      by Within w = refl

  pub running_placed : closed progress ≡ placed all (unplaced (closed progress))
  running_placed = closed_placed all progress running.decls running.function

-- A line is a text of at most one value of a type.
use Rattle.std.proofs.Common.{◌≡◌, ℕ, zero, suc, ◌^◌, ◌<◌, nat_lt, ◌==◌, Bool, true, false, if◌then◌else◌, pos, List, [], ◌∷◌, ◌++◌, map, length, Option, Some, None, slice_get, w64, refl, ap, sym, ◌∙◌, subst, append_assoc, arith}
use Rattle.std.proofs.lemmas.Bool.{and_parts, eqb-true, ltb-true}
use Rattle.std.proofs.lemmas.Int.{of_z-to_z}
use Rattle.std.specs.List.{list_all, flat_map}
use Rattle.std.specs.Int.{cast_unsigned}
use Rattle.hume_base.specs.declared.types.Ty.{Ty, out-Ty, roll-Ty, roll-out-Ty, map-Ty, fold-roll-Ty, ind-Ty}
use Rattle.hume_base.specs.declared.types.Ty.TheOpen.{Ty-F}
use Rattle.hume_base.specs.declared.types.Value.{Value, out-Value, roll-Value, roll-out-Value}
use Rattle.hume_base.specs.declared.types.Value.TheOpen.{Value-F}
use Rattle.hume_base.specs.declared.types.Types.{Types}
use Rattle.hume_base.specs.declared.types.SumDef.{SumDef}
use Rattle.hume_base.specs.declared.types.ConDef.{ConDef}
use Rattle.hume_base.specs.Words.{int_of}
use Rattle.hume_base.specs.Values.{is_value, is_word_of, is_char_word, is_int_word, all_pass, is_tuple_of, is_vector_of, value_step, is_value_with, is_con_of, is_sum_value, is_named_value, fields_at}
use Rattle.hume_base.specs.Flat.{word_in, parts_in}
use Rattle.hume_text.specs.Spelling.{Piece, Space, Open, Close, OpenVector, CloseVector, Comma, Name, Number, Letter, bool_name, each_spelled, with_commas, has_fields, as_field, name_of, name_at, con_spelled, sum_spelled, spelling_step, spelling_with, named_spelling, spelling}
use Rattle.hume_text.specs.Read.{is_blank, behind, Cut, token_at, next, Cuts, IsTextOf}
use Rattle.hume_text.specs.Names.{HasNames, HaveNames}

-- a spelling without its spaces
abbrev tokens : List Piece → List Piece
tokens [] = []
tokens (Space ∷ ps) = tokens ps
tokens (Open ∷ ps) = Open ∷ tokens ps
tokens (Close ∷ ps) = Close ∷ tokens ps
tokens (OpenVector ∷ ps) = OpenVector ∷ tokens ps
tokens (CloseVector ∷ ps) = CloseVector ∷ tokens ps
tokens (Comma ∷ ps) = Comma ∷ tokens ps
tokens (Name name ∷ ps) = Name name ∷ tokens ps
tokens (Number number ∷ ps) = Number number ∷ tokens ps
tokens (Letter byte ∷ ps) = Letter byte ∷ tokens ps

tokens-append : (ps qs : List Piece) → tokens (ps ++ qs) ≡ tokens ps ++ tokens qs
tokens-append [] qs = refl
tokens-append (Space ∷ ps) qs = tokens-append ps qs
tokens-append (Open ∷ ps) qs = ap (λ ts. Open ∷ ts) (tokens-append ps qs)
tokens-append (Close ∷ ps) qs = ap (λ ts. Close ∷ ts) (tokens-append ps qs)
tokens-append (OpenVector ∷ ps) qs = ap (λ ts. OpenVector ∷ ts) (tokens-append ps qs)
tokens-append (CloseVector ∷ ps) qs = ap (λ ts. CloseVector ∷ ts) (tokens-append ps qs)
tokens-append (Comma ∷ ps) qs = ap (λ ts. Comma ∷ ts) (tokens-append ps qs)
tokens-append (Name name ∷ ps) qs = ap (λ ts. Name name ∷ ts) (tokens-append ps qs)
tokens-append (Number number ∷ ps) qs = ap (λ ts. Number number ∷ ts) (tokens-append ps qs)
tokens-append (Letter byte ∷ ps) qs = ap (λ ts. Letter byte ∷ ts) (tokens-append ps qs)

-- the line begins with these tokens, and the rest is behind them
abbrev CutsAll : List ℕ → List Piece → List ℕ → Type 0
CutsAll line [] rest = line ≡ rest
CutsAll line (token ∷ ts) rest = (after : List ℕ) × (next line ≡ Some (token, after)) × CutsAll after ts rest

cuts_tokens : (ps : List Piece) (line rest : List ℕ) → Cuts line ps rest → CutsAll line (tokens ps) rest
cuts_tokens [] line rest h = h
cuts_tokens (Space ∷ ps) line rest h = cuts_tokens ps line rest h
cuts_tokens (Open ∷ ps) line rest h = (h.0, h.1, cuts_tokens ps h.0 rest h.2)
cuts_tokens (Close ∷ ps) line rest h = (h.0, h.1, cuts_tokens ps h.0 rest h.2)
cuts_tokens (OpenVector ∷ ps) line rest h = (h.0, h.1, cuts_tokens ps h.0 rest h.2)
cuts_tokens (CloseVector ∷ ps) line rest h = (h.0, h.1, cuts_tokens ps h.0 rest h.2)
cuts_tokens (Comma ∷ ps) line rest h = (h.0, h.1, cuts_tokens ps h.0 rest h.2)
cuts_tokens (Name name ∷ ps) line rest h = (h.0, h.1, cuts_tokens ps h.0 rest h.2)
cuts_tokens (Number number ∷ ps) line rest h = (h.0, h.1, cuts_tokens ps h.0 rest h.2)
cuts_tokens (Letter byte ∷ ps) line rest h = (h.0, h.1, cuts_tokens ps h.0 rest h.2)

no_token : (line : List ℕ) → behind is_blank line ≡ [] → next line ≡ None
no_token line blank = ap token_at blank

same_cut : (x y : Piece) (a b : List ℕ) → ◌≡◌ {A = Cut} (Some (x, a)) (Some (y, b)) → (x ≡ y) × (a ≡ b)
same_cut x y a b e =
    let both : ◌≡◌ {A = Piece × List ℕ} (x, a) (y, b) = cc in
    (ap (λ (p : Piece × List ℕ). p.0) both, ap (λ (p : Piece × List ℕ). p.1) both)

none_some : (x : Piece) (a : List ℕ) → ◌≡◌ {A = Cut} None (Some (x, a)) → ⊥
none_some x a e = cc

same_tokens : (xs ys : List Piece) (line r s : List ℕ) → CutsAll line xs r → CutsAll line ys s → behind is_blank r ≡ [] → behind is_blank s ≡ []
    → xs ≡ ys
same_tokens [] [] line r s h k p q = refl
same_tokens [] (y ∷ ys) line r s h k p q = absurd (none_some y k.0 (sym (no_token line (ap (behind is_blank) h ∙ p)) ∙ k.1))
same_tokens (x ∷ xs) [] line r s h k p q = absurd (none_some x h.0 (sym (no_token line (ap (behind is_blank) k ∙ q)) ∙ h.1))
same_tokens (x ∷ xs) (y ∷ ys) line r s h k p q =
    let same = same_cut x y h.0 k.0 (sym h.1 ∙ k.1) in
    let others : xs ≡ ys = same_tokens xs ys k.0 r s (subst (λ a. CutsAll a xs r) same.1 h.2) k.2 p q in
    λ i. same.0 i ∷ others i

-- the values that pass a test are told apart by the tokens with which a list begins
abbrev Told : (Value → Bool) → (Value → List Piece) → Type 0
Told test spelled = (v w : Value) (r s : List Piece) → test v ≡ true → test w ≡ true → tokens (spelled v) ++ r ≡ tokens (spelled w) ++ s
    → (v ≡ w) × (r ≡ s)

abbrev LayerTold : (Value-F Value → Bool) → (Value-F Value → List Piece) → Type 0
LayerTold test spelled = (v w : Value-F Value) (r s : List Piece) → test v ≡ true → test w ≡ true → tokens (spelled v) ++ r ≡ tokens (spelled w) ++ s
    → (v ≡ w) × (r ≡ s)

by_layer : (test : Value-F Value → Bool) (spelled : Value-F Value → List Piece) → LayerTold test spelled
    → Told (λ v. test (out-Value v)) (λ v. spelled (out-Value v))
by_layer test spelled told v w r s p q e =
    let same = told (out-Value v) (out-Value w) r s p q e in
    (sym (roll-out-Value v) ∙ ap roll-Value same.0 ∙ roll-out-Value w, same.1)

heads : (a b : Piece) (r s : List Piece) → a ∷ r ≡ b ∷ s → (a ≡ b) × (r ≡ s)
heads a b r s e = (cc, cc)

word_told : (test : ℕ → Bool) (piece : ℕ → Piece) → ((a : ℕ) (ps : List Piece) → tokens (piece a ∷ ps) ≡ piece a ∷ tokens ps)
    → ((a b : ℕ) → test a ≡ true → test b ≡ true → piece a ≡ piece b → a ≡ b)
    → LayerTold (is_word_of test) (λ l. piece (word_in l) ∷ [])
word_told test piece token one (Value-F.Word a) (Value-F.Word b) r s p q e =
    let h = heads (piece a) (piece b) r s (ap (λ ts. ts ++ r) (sym (token a [])) ∙ e ∙ ap (λ ts. ts ++ s) (token b [])) in
    (ap Value-F.Word (one a b p q h.0), h.1)
word_told test piece token one (Value-F.Word a) (Value-F.Tuple ws) r s p q e = cc
word_told test piece token one (Value-F.Word a) (Value-F.Vector ws) r s p q e = cc
word_told test piece token one (Value-F.Word a) (Value-F.Con c ws) r s p q e = cc
word_told test piece token one (Value-F.Tuple vs) w r s p q e = cc
word_told test piece token one (Value-F.Vector vs) w r s p q e = cc
word_told test piece token one (Value-F.Con d vs) w r s p q e = cc

-- a comma and its tokens for each part
abbrev seps : List (List Piece) → List Piece
seps [] = []
seps (part ∷ parts) = Comma ∷ (tokens part ++ seps parts)

later_tokens : (parts : List (List Piece)) → tokens (flat_map (λ later. Comma ∷ (Space ∷ later)) parts) ≡ seps parts
later_tokens [] = refl
later_tokens (part ∷ parts) = ap (λ ts. Comma ∷ ts) (tokens-append part (flat_map (λ later. Comma ∷ (Space ∷ later)) parts)
    ∙ ap (λ ts. tokens part ++ ts) (later_tokens parts))

abbrev first_seps : List (List Piece) → List Piece
first_seps [] = []
first_seps (part ∷ parts) = tokens part ++ seps parts

commas_tokens : (parts : List (List Piece)) → tokens (with_commas parts) ≡ first_seps parts
commas_tokens [] = refl
commas_tokens (part ∷ parts) = tokens-append part (flat_map (λ later. Comma ∷ (Space ∷ later)) parts)
    ∙ ap (λ ts. tokens part ++ ts) (later_tokens parts)

data AllTold : List (Value → Bool) → List (Value → List Piece) → Type 0 where
  none : AllTold [] []
  one : {t : Value → Bool} {f : Value → List Piece} {ts : List (Value → Bool)} {fs : List (Value → List Piece)} → Told t f → AllTold ts fs
      → AllTold (t ∷ ts) (f ∷ fs)

later_told : {ts : List (Value → Bool)} {fs : List (Value → List Piece)} → AllTold ts fs → (vs ws : List Value) (r s : List Piece)
    → all_pass ts vs ≡ true → all_pass ts ws ≡ true → seps (each_spelled fs vs) ++ r ≡ seps (each_spelled fs ws) ++ s → (vs ≡ ws) × (r ≡ s)
later_told none [] [] r s p q e = (refl, e)
later_told none [] (w ∷ ws) r s p q e = cc
later_told none (v ∷ vs) ws r s p q e = cc
later_told (one told more) [] ws r s p q e = cc
later_told (one told more) (v ∷ vs) [] r s p q e = cc
later_told (one {f = f} {fs = fs} told more) (v ∷ vs) (w ∷ ws) r s p q e =
    let ps = and_parts _ _ p in
    let qs = and_parts _ _ q in
    let behind_comma = (heads Comma Comma ((tokens (f v) ++ seps (each_spelled fs vs)) ++ r) ((tokens (f w) ++ seps (each_spelled fs ws)) ++ s) e).1 in
    let first = told v w (seps (each_spelled fs vs) ++ r) (seps (each_spelled fs ws) ++ s) ps.0 qs.0
    (sym (append_assoc (tokens (f v)) (seps (each_spelled fs vs)) r) ∙ behind_comma ∙ append_assoc (tokens (f w)) (seps (each_spelled fs ws)) s) in
    let rest = later_told more vs ws r s ps.1 qs.1 first.1 in
    (λ i. first.0 i ∷ rest.0 i, rest.1)

parts_told : {ts : List (Value → Bool)} {fs : List (Value → List Piece)} → AllTold ts fs → (vs ws : List Value) (r s : List Piece)
    → all_pass ts vs ≡ true → all_pass ts ws ≡ true → first_seps (each_spelled fs vs) ++ r ≡ first_seps (each_spelled fs ws) ++ s
    → (vs ≡ ws) × (r ≡ s)
parts_told none [] [] r s p q e = (refl, e)
parts_told none [] (w ∷ ws) r s p q e = cc
parts_told none (v ∷ vs) ws r s p q e = cc
parts_told (one told more) [] ws r s p q e = cc
parts_told (one told more) (v ∷ vs) [] r s p q e = cc
parts_told (one {f = f} {fs = fs} told more) (v ∷ vs) (w ∷ ws) r s p q e =
    let ps = and_parts _ _ p in
    let qs = and_parts _ _ q in
    let first = told v w (seps (each_spelled fs vs) ++ r) (seps (each_spelled fs ws) ++ s) ps.0 qs.0
    (sym (append_assoc (tokens (f v)) (seps (each_spelled fs vs)) r) ∙ e ∙ append_assoc (tokens (f w)) (seps (each_spelled fs ws)) s) in
    let rest = later_told more vs ws r s ps.1 qs.1 first.1 in
    (λ i. first.0 i ∷ rest.0 i, rest.1)

-- behind the opening bracket, and up to the closing one
inside : (closing : Piece) (parts : List (List Piece)) (r : List Piece) → tokens (closing ∷ []) ≡ closing ∷ []
    → tokens (with_commas parts ++ closing ∷ []) ++ r ≡ first_seps parts ++ (closing ∷ r)
inside closing parts r token =
    ap (λ ts. ts ++ r) (tokens-append (with_commas parts) (closing ∷ []) ∙ ap (λ ts. tokens (with_commas parts) ++ ts) token
    ∙ ap (λ ts. ts ++ closing ∷ []) (commas_tokens parts))
    ∙ append_assoc (first_seps parts) (closing ∷ []) r

tuple_told : {ts : List (Value → Bool)} {fs : List (Value → List Piece)} → AllTold ts fs
    → LayerTold (is_tuple_of ts) (λ l. Open ∷ (with_commas (each_spelled fs (parts_in l)) ++ Close ∷ []))
tuple_told {fs = fs} all (Value-F.Tuple vs) (Value-F.Tuple ws) r s p q e =
    let behind_open = (heads Open Open (tokens (with_commas (each_spelled fs vs) ++ Close ∷ []) ++ r) (tokens (with_commas (each_spelled fs ws) ++ Close ∷ []) ++ s) e).1 in
    let h = parts_told all vs ws (Close ∷ r) (Close ∷ s) p q (sym (inside Close (each_spelled fs vs) r refl) ∙ behind_open
    ∙ inside Close (each_spelled fs ws) s refl) in
    (ap Value-F.Tuple h.0, (heads Close Close r s h.1).1)
tuple_told all (Value-F.Tuple vs) (Value-F.Word b) r s p q e = cc
tuple_told all (Value-F.Tuple vs) (Value-F.Vector ws) r s p q e = cc
tuple_told all (Value-F.Tuple vs) (Value-F.Con c ws) r s p q e = cc
tuple_told all (Value-F.Word a) w r s p q e = cc
tuple_told all (Value-F.Vector vs) w r s p q e = cc
tuple_told all (Value-F.Con d vs) w r s p q e = cc

later_items : (t : Value → Bool) (f : Value → List Piece) → Told t f → (vs ws : List Value) (r s : List Piece) → length vs ≡ length ws
    → list_all t vs ≡ true → list_all t ws ≡ true → seps (map f vs) ++ r ≡ seps (map f ws) ++ s → (vs ≡ ws) × (r ≡ s)
later_items t f told [] [] r s long p q e = (refl, e)
later_items t f told [] (w ∷ ws) r s long p q e = absurd (omega arith)
later_items t f told (v ∷ vs) [] r s long p q e = absurd (omega arith)
later_items t f told (v ∷ vs) (w ∷ ws) r s long p q e =
    let ps = and_parts _ _ p in
    let qs = and_parts _ _ q in
    let behind_comma = (heads Comma Comma ((tokens (f v) ++ seps (map f vs)) ++ r) ((tokens (f w) ++ seps (map f ws)) ++ s) e).1 in
    let first = told v w (seps (map f vs) ++ r) (seps (map f ws) ++ s) ps.0 qs.0
    (sym (append_assoc (tokens (f v)) (seps (map f vs)) r) ∙ behind_comma ∙ append_assoc (tokens (f w)) (seps (map f ws)) s) in
    let rest = later_items t f told vs ws r s (omega arith) ps.1 qs.1 first.1 in
    (λ i. first.0 i ∷ rest.0 i, rest.1)

items_told : (t : Value → Bool) (f : Value → List Piece) → Told t f → (vs ws : List Value) (r s : List Piece) → length vs ≡ length ws
    → list_all t vs ≡ true → list_all t ws ≡ true → first_seps (map f vs) ++ r ≡ first_seps (map f ws) ++ s → (vs ≡ ws) × (r ≡ s)
items_told t f told [] [] r s long p q e = (refl, e)
items_told t f told [] (w ∷ ws) r s long p q e = absurd (omega arith)
items_told t f told (v ∷ vs) [] r s long p q e = absurd (omega arith)
items_told t f told (v ∷ vs) (w ∷ ws) r s long p q e =
    let ps = and_parts _ _ p in
    let qs = and_parts _ _ q in
    let first = told v w (seps (map f vs) ++ r) (seps (map f ws) ++ s) ps.0 qs.0
    (sym (append_assoc (tokens (f v)) (seps (map f vs)) r) ∙ e ∙ append_assoc (tokens (f w)) (seps (map f ws)) s) in
    let rest = later_items t f told vs ws r s (omega arith) ps.1 qs.1 first.1 in
    (λ i. first.0 i ∷ rest.0 i, rest.1)

vector_told : (n : ℕ) (t : Value → Bool) (f : Value → List Piece) → Told t f
    → LayerTold (is_vector_of n t) (λ l. OpenVector ∷ (with_commas (map f (parts_in l)) ++ CloseVector ∷ []))
vector_told n t f told (Value-F.Vector vs) (Value-F.Vector ws) r s p q e =
    let ps = and_parts _ _ p in
    let qs = and_parts _ _ q in
    let behind_open = (heads OpenVector OpenVector (tokens (with_commas (map f vs) ++ CloseVector ∷ []) ++ r) (tokens (with_commas (map f ws) ++ CloseVector ∷ []) ++ s) e).1 in
    let h = items_told t f told vs ws (CloseVector ∷ r) (CloseVector ∷ s) (eqb-true _ _ ps.0 ∙ sym (eqb-true _ _ qs.0)) ps.1 qs.1
    (sym (inside CloseVector (map f vs) r refl) ∙ behind_open ∙ inside CloseVector (map f ws) s refl) in
    (ap Value-F.Vector h.0, (heads CloseVector CloseVector r s h.1).1)
vector_told n t f told (Value-F.Vector vs) (Value-F.Word b) r s p q e = cc
vector_told n t f told (Value-F.Vector vs) (Value-F.Tuple ws) r s p q e = cc
vector_told n t f told (Value-F.Vector vs) (Value-F.Con c ws) r s p q e = cc
vector_told n t f told (Value-F.Word a) w r s p q e = cc
vector_told n t f told (Value-F.Tuple vs) w r s p q e = cc
vector_told n t f told (Value-F.Con d vs) w r s p q e = cc

-- where a value has fields, every value of its type begins with a name
abbrev Led : (Value → Bool) → (Value → List Piece) → Type 0
Led test spelled = (v w : Value) → test v ≡ true → test w ≡ true → has_fields (out-Value v) ≡ true
    → (name : List ℕ) × (ts : List Piece) × (tokens (spelled w) ≡ Name name ∷ ts)

field_tokens : (b : Bool) (ps : List Piece)
    → tokens (if b then Space ∷ (Open ∷ (ps ++ Close ∷ [])) else Space ∷ ps) ≡ (if b then Open ∷ (tokens ps ++ Close ∷ []) else tokens ps)
field_tokens true ps = ap (λ ts. Open ∷ ts) (tokens-append ps (Close ∷ []))
field_tokens false ps = refl

open_name : (xs ts ys : List Piece) (name : List ℕ) → Open ∷ xs ≡ Name name ∷ (ts ++ ys) → ⊥
open_name xs ts ys name e = cc

field_told : (t : Value → Bool) (f : Value → List Piece) → Told t f → Led t f → Told t (as_field f)
field_told t f told led v w r s p q e =
    go (has_fields (out-Value v)) (has_fields (out-Value w)) refl refl
    (ap (λ ts. ts ++ r) (sym (field_tokens (has_fields (out-Value v)) (f v))) ∙ e
    ∙ ap (λ ts. ts ++ s) (field_tokens (has_fields (out-Value w)) (f w)))
  where
    go : (b c : Bool) → has_fields (out-Value v) ≡ b → has_fields (out-Value w) ≡ c
        → (if b then Open ∷ (tokens (f v) ++ Close ∷ []) else tokens (f v)) ++ r ≡ (if c then Open ∷ (tokens (f w) ++ Close ∷ []) else tokens (f w)) ++ s → (v ≡ w) × (r ≡ s)
    go true true hv hw e' =
        let behind_open = (heads Open Open ((tokens (f v) ++ Close ∷ []) ++ r) ((tokens (f w) ++ Close ∷ []) ++ s) e').1 in
        let h = told v w (Close ∷ r) (Close ∷ s) p q (sym (append_assoc (tokens (f v)) (Close ∷ []) r) ∙ behind_open
        ∙ append_assoc (tokens (f w)) (Close ∷ []) s) in
        (h.0, (heads Close Close r s h.1).1)
    go false false hv hw e' = told v w r s p q e'
    go true false hv hw e' =
        let named = led v w p q hv in
        absurd (open_name ((tokens (f v) ++ Close ∷ []) ++ r) named.1 s named.0 (e' ∙ ap (λ ts. ts ++ s) named.2))
    go false true hv hw e' =
        let named = led w v q p hw in
        absurd (open_name ((tokens (f w) ++ Close ∷ []) ++ s) named.1 r named.0 (sym e' ∙ ap (λ ts. ts ++ r) named.2))

joined_told : {ts : List (Value → Bool)} {fs : List (Value → List Piece)} → AllTold ts fs → (vs ws : List Value) (r s : List Piece)
    → all_pass ts vs ≡ true → all_pass ts ws ≡ true
    → tokens (flat_map (λ part. part) (each_spelled fs vs)) ++ r ≡ tokens (flat_map (λ part. part) (each_spelled fs ws)) ++ s → (vs ≡ ws) × (r ≡ s)
joined_told none [] [] r s p q e = (refl, e)
joined_told none [] (w ∷ ws) r s p q e = cc
joined_told none (v ∷ vs) ws r s p q e = cc
joined_told (one told more) [] ws r s p q e = cc
joined_told (one told more) (v ∷ vs) [] r s p q e = cc
joined_told (one {f = f} {fs = fs} told more) (v ∷ vs) (w ∷ ws) r s p q e =
    let ps = and_parts _ _ p in
    let qs = and_parts _ _ q in
    let others : List Value → List Piece = λ us. flat_map (λ part. part) (each_spelled fs us) in
    let split : (u : Value) (us : List Value) (z : List Piece) → tokens (f u ++ others us) ++ z ≡ tokens (f u) ++ (tokens (others us) ++ z) =
    λ u us z. ap (λ ts. ts ++ z) (tokens-append (f u) (others us)) ∙ append_assoc (tokens (f u)) (tokens (others us)) z in
    let first = told v w (tokens (others vs) ++ r) (tokens (others ws) ++ s) ps.0 qs.0 (sym (split v vs r) ∙ e ∙ split w ws s) in
    let rest = joined_told more vs ws r s ps.1 qs.1 first.1 in
    (λ i. first.0 i ∷ rest.0 i, rest.1)

all_told : (t : Ty → Value → Bool) (f : Ty → Value → List Piece) → ((ty : Ty) → Told (t ty) (f ty)) → ((ty : Ty) → Led (t ty) (f ty))
    → (tys : List Ty) → AllTold (map t tys) (map (λ ty. as_field (f ty)) tys)
all_told t f told led [] = none
all_told t f told led (ty ∷ tys) = one (field_told (t ty) (f ty) (told ty) (led ty)) (all_told t f told led tys)

pub some_con : (cons : List ConDef) (c : ℕ) → c < length cons → slice_get cons c ≡ None → ⊥
some_con [] c h e = omega arith
some_con (con ∷ cons) zero h e = cc
some_con (con ∷ cons) (suc c) h e = some_con cons c (omega arith) e

name_tells : (sum : SumDef) → HasNames sum → (c d : ℕ) → c < length sum.cons → d < length sum.cons → (o u : Option ConDef) → slice_get sum.cons c ≡ o
    → slice_get sum.cons d ≡ u → name_of o ≡ name_of u → c ≡ d
name_tells sum names c d hc hd None u ec ed e = absurd (some_con sum.cons c hc ec)
name_tells sum names c d hc hd (Some con) None ec ed e = absurd (some_con sum.cons d hd ed)
name_tells sum names c d hc hd (Some con) (Some other) ec ed e = names.differ c d con other ec ed e

same_name : (m n : List ℕ) → Name m ≡ Name n → m ≡ n
same_name m n e = cc

module _ (t : Ty → Value → Bool) (f : Ty → Value → List Piece) (told : (ty : Ty) → Told (t ty) (f ty)) (led : (ty : Ty)
    → Led (t ty) (f ty)) (sum : SumDef) (names : HasNames sum) where
  abbrev fields : ℕ → List Value → List Piece
  fields c vs = flat_map (λ part. part) (each_spelled (map (λ ty. as_field (f ty)) (fields_at sum c)) vs)

  con_told : LayerTold (is_con_of t sum) (con_spelled f sum)
  con_told (Value-F.Con c vs) (Value-F.Con d ws) r s p q e =
      let ps = and_parts _ _ p in
      let qs = and_parts _ _ q in
      let parts = heads (Name (name_at sum c)) (Name (name_at sum d)) (tokens (fields c vs) ++ r) (tokens (fields d ws) ++ s) e in
      let same : c ≡ d = name_tells sum names c d (ltb-true _ _ ps.0) (ltb-true _ _ qs.0) (slice_get sum.cons c) (slice_get sum.cons d) refl refl (same_name _ _ parts.0) in
      let q' = subst (λ k. all_pass (map t (fields_at sum k)) ws ≡ true) (sym same) qs.1 in
      let e' = subst (λ k. tokens (fields c vs) ++ r ≡ tokens (fields k ws) ++ s) (sym same) parts.1 in
      let h = joined_told (all_told t f told led (fields_at sum c)) vs ws r s ps.1 q' e' in
      (λ i. Value-F.Con (same i) (h.0 i), h.1)
  con_told (Value-F.Con c vs) (Value-F.Word b) r s p q e = cc
  con_told (Value-F.Con c vs) (Value-F.Tuple ws) r s p q e = cc
  con_told (Value-F.Con c vs) (Value-F.Vector ws) r s p q e = cc
  con_told (Value-F.Word a) w r s p q e = cc
  con_told (Value-F.Tuple vs) w r s p q e = cc
  con_told (Value-F.Vector vs) w r s p q e = cc

bool_one : (a b : ℕ) → nat_lt a 2 ≡ true → nat_lt b 2 ≡ true → Name (bool_name a) ≡ Name (bool_name b) → a ≡ b
bool_one zero zero p q e = refl
bool_one zero (suc zero) p q e = cc
bool_one zero (suc (suc b)) p q e = absurd (omega (arith, ltb-true (suc (suc b)) 2 q))
bool_one (suc zero) zero p q e = cc
bool_one (suc zero) (suc zero) p q e = refl
bool_one (suc zero) (suc (suc b)) p q e = absurd (omega (arith, ltb-true (suc (suc b)) 2 q))
bool_one (suc (suc a)) b p q e = absurd (omega (arith, ltb-true (suc (suc a)) 2 p))

int_one : (bits a b : ℕ) → is_int_word bits a ≡ true → is_int_word bits b ≡ true → Number (int_of a) ≡ Number (int_of b) → a ≡ b
int_one bits a b p q e =
    let same : int_of a ≡ int_of b = cc in
    sym (of_z-to_z w64 a (ltb-true _ _ (and_parts _ _ p).0)) ∙ ap (cast_unsigned w64) same ∙ of_z-to_z w64 b (ltb-true _ _ (and_parts _ _ q).0)

pub no_fields_word : (test : ℕ → Bool) (l : Value-F Value) → is_word_of test l ≡ true → has_fields l ≡ true → ⊥
no_fields_word test (Value-F.Word a) p h = cc
no_fields_word test (Value-F.Tuple vs) p h = cc
no_fields_word test (Value-F.Vector vs) p h = cc
no_fields_word test (Value-F.Con c vs) p h = cc

pub no_fields_tuple : (tests : List (Value → Bool)) (l : Value-F Value) → is_tuple_of tests l ≡ true → has_fields l ≡ true → ⊥
no_fields_tuple tests (Value-F.Word a) p h = cc
no_fields_tuple tests (Value-F.Tuple vs) p h = cc
no_fields_tuple tests (Value-F.Vector vs) p h = cc
no_fields_tuple tests (Value-F.Con c vs) p h = cc

pub no_fields_vector : (n : ℕ) (test : Value → Bool) (l : Value-F Value) → is_vector_of n test l ≡ true → has_fields l ≡ true → ⊥
no_fields_vector n test (Value-F.Word a) p h = cc
no_fields_vector n test (Value-F.Tuple vs) p h = cc
no_fields_vector n test (Value-F.Vector vs) p h = cc
no_fields_vector n test (Value-F.Con c vs) p h = cc

module _ (nt : ℕ → Value → Bool) (ns : ℕ → Value → List Piece) (named : (k : ℕ) → Told (nt k) (ns k)) (named_led : (k : ℕ) → Led (nt k) (ns k)) where
  abbrev TyTold : Ty → Type 0
  TyTold ty = Told (is_value_with nt ty) (spelling_with ns ty)

  abbrev Part : Type 0
  Part = (ty : Ty) × TyTold ty

  abbrev of_part : Part → Ty
  of_part p = p.0

  parts_all : (ps : List Part) → AllTold (map (is_value_with nt) (map of_part ps)) (map (spelling_with ns) (map of_part ps))
  parts_all [] = none
  parts_all (p ∷ ps) = one p.1 (parts_all ps)

  step_told : (y : Ty-F Part) → Told (value_step nt (map-Ty Ty (Value
      → Bool) (is_value_with nt) (map-Ty Part Ty of_part y))) (spelling_step ns (map-Ty Ty (Value
      → List Piece) (spelling_with ns) (map-Ty Part Ty of_part y)))
  step_told Ty-F.Bool = by_layer (is_word_of (λ word. nat_lt word 2)) (λ l. Name (bool_name (word_in l)) ∷ []) (word_told (λ word. nat_lt word 2) (λ a. Name (bool_name a)) (λ a ps. refl) bool_one)
  step_told Ty-F.Char = by_layer (is_word_of is_char_word) (λ l. Letter (word_in l) ∷ []) (word_told is_char_word (λ a. Letter a) (λ a ps. refl) (λ a b p q e. cc))
  step_told (Ty-F.Int n) = by_layer (is_word_of (is_int_word n)) (λ l. Number (int_of (word_in l)) ∷ []) (word_told (is_int_word n) (λ a. Number (int_of a)) (λ a ps. refl) (int_one n))
  step_told (Ty-F.Nat n) = by_layer (is_word_of (λ word. nat_lt word (2 ^ n))) (λ l. Number (pos (word_in l)) ∷ []) (word_told (λ word. nat_lt word (2 ^ n)) (λ a. Number (pos a)) (λ a ps. refl) (λ a b p q e. cc))
  step_told (Ty-F.Tuple ps) = by_layer (is_tuple_of (map (is_value_with nt) (map of_part ps))) (λ l. Open ∷ (with_commas (each_spelled (map (spelling_with ns) (map of_part ps)) (parts_in l)) ++ Close ∷ [])) (tuple_told (parts_all ps))
  step_told (Ty-F.Vector n p) = by_layer (is_vector_of n (is_value_with nt p.0)) (λ l. OpenVector ∷ (with_commas (map (spelling_with ns p.0) (parts_in l)) ++ CloseVector ∷ []))
      (vector_told n (is_value_with nt p.0) (spelling_with ns p.0) p.1)
  step_told (Ty-F.Named k) = named k

  layer_told : (y : Ty-F Part) → TyTold (roll-Ty (map-Ty Part Ty of_part y))
  layer_told y = rw (fold-roll-Ty (Value → Bool) (value_step nt), fold-roll-Ty (Value → List Piece) (spelling_step ns)) (step_told y)

  ty_told : (ty : Ty) → TyTold ty
  ty_told = ind-Ty TyTold (λ x y is. subst (λ z. TyTold (roll-Ty z)) is (layer_told y))

  abbrev TyLed : Ty → Type 0
  TyLed ty = Led (is_value_with nt ty) (spelling_with ns ty)

  step_led : (y : Ty-F Ty) → Led (value_step nt (map-Ty Ty (Value → Bool) (is_value_with nt) y)) (spelling_step ns (map-Ty Ty (Value
      → List Piece) (spelling_with ns) y))
  step_led Ty-F.Bool v w p q h = absurd (no_fields_word _ (out-Value v) p h)
  step_led Ty-F.Char v w p q h = absurd (no_fields_word _ (out-Value v) p h)
  step_led (Ty-F.Int n) v w p q h = absurd (no_fields_word _ (out-Value v) p h)
  step_led (Ty-F.Nat n) v w p q h = absurd (no_fields_word _ (out-Value v) p h)
  step_led (Ty-F.Tuple tys) v w p q h = absurd (no_fields_tuple _ (out-Value v) p h)
  step_led (Ty-F.Vector n ty) v w p q h = absurd (no_fields_vector n _ (out-Value v) p h)
  step_led (Ty-F.Named k) v w p q h = named_led k v w p q h

  rolled_led : (y : Ty-F Ty) → TyLed (roll-Ty y)
  rolled_led y = rw (fold-roll-Ty (Value → Bool) (value_step nt), fold-roll-Ty (Value → List Piece) (spelling_step ns)) (step_led y)

  ty_led : (ty : Ty) → TyLed ty
  ty_led ty = subst TyLed (roll-out-Ty ty) (rolled_led (out-Ty ty))

either_told : (b : Bool) (t u : Value → Bool) (f g : Value → List Piece) → Told t f → Told u g
    → Told (λ v. if b then t v else u v) (λ v. if b then f v else g v)
either_told true t u f g first second = first
either_told false t u f g first second = second

either_led : (b : Bool) (t u : Value → Bool) (f g : Value → List Piece) → Led t f → Led u g
    → Led (λ v. if b then t v else u v) (λ v. if b then f v else g v)
either_led true t u f g first second = first
either_led false t u f g first second = second

sum_led : (t : Ty → Value → Bool) (f : Ty → Value → List Piece) (o : Option SumDef) → Led (is_sum_value t o) (sum_spelled f o)
sum_led t f None = λ v w p q h. cc
sum_led t f (Some sum) = λ v w p q h.
    (name_at sum (word_in (out-Value w)), tokens (flat_map (λ part. part) (each_spelled (map (λ ty. as_field (f ty)) (fields_at sum (word_in (out-Value w)))) (parts_in (out-Value w)))), refl)

named_are_led : (types : Types) (bound k : ℕ) → Led (is_named_value types bound k) (named_spelling types bound k)
unfolding is_named_value named_spelling
named_are_led types zero k = λ v w p q h. cc
named_are_led types (suc bound) k = either_led (k == bound) _ _ _ _ (sum_led _ _ (slice_get types.sums bound)) (named_are_led types bound k)

module _ (types : Types) (names : HaveNames types) where
  sum_told : (bound : ℕ) → ((k : ℕ) → Told (is_named_value types bound k) (named_spelling types bound k)) → (o : Option SumDef)
      → slice_get types.sums bound ≡ o
      → Told (is_sum_value (is_value_with (is_named_value types bound)) o) (sum_spelled (spelling_with (named_spelling types bound)) o)
  sum_told bound named None found = λ v w r s p q e. cc
  sum_told bound named (Some sum) found =
      let test : Ty → Value → Bool = is_value_with (is_named_value types bound) in
      let spelled : Ty → Value → List Piece = spelling_with (named_spelling types bound) in
      by_layer (is_con_of test sum) (con_spelled spelled sum)
      (con_told test spelled (ty_told (is_named_value types bound) (named_spelling types bound) named (named_are_led types bound)) (ty_led (is_named_value types bound) (named_spelling types bound) named (named_are_led types bound)) sum (names bound sum found))

  named_told : (bound k : ℕ) → Told (is_named_value types bound k) (named_spelling types bound k)
  unfolding is_named_value named_spelling
  named_told zero k = λ v w r s p q e. cc
  named_told (suc bound) k = either_told (k == bound) _ _ _ _ (sum_told bound (named_told bound) (slice_get types.sums bound) refl) (named_told bound k)

  -- two values with a line as their text are the same
  pub one_value : (ty : Ty) (line : List ℕ) (v w : Value) → is_value types ty v ≡ true → is_value types ty w ≡ true → IsTextOf types ty line v
      → IsTextOf types ty line w → v ≡ w
  one_value ty line v w p q x y =
      let all = length types.sums in
      let same : tokens (spelling types ty v) ≡ tokens (spelling types ty w) =
      same_tokens _ _ line x.rest y.rest (cuts_tokens (spelling types ty v) line x.rest x.tokens) (cuts_tokens (spelling types ty w) line y.rest y.tokens) x.blank y.blank in
      (ty_told (is_named_value types all) (named_spelling types all) (named_told all) (named_are_led types all) ty v w [] [] p q (ap (λ ts. ts ++ []) same)).0

-- Reading declarations, step by step, as the code goes.
use Rattle.std.proofs.Common.{◌≡◌, ℕ, List, [], ◌∷◌, ◌<◌, length, Bool, true, false, refl, ap}
use Rattle.hume_base.specs.declared.limits.TheConstants.{MAX_DEPTH}
use Rattle.std.specs.Prelude.{Ok, Err, Some, None}
use Rattle.hume_base.specs.declared.keyword.Keyword.TheVariants as word
use Rattle.hume_base.specs.declared.symbol.Symbol.TheVariants as symbol
use Rattle.hume_base.specs.declared.token.Kind.{Kind}
use Rattle.hume_base.specs.declared.token.Kind.TheVariants.{Word, Sign}
use Rattle.hume_base.specs.declared.token.Token.{Token}
use Rattle.hume_ast.specs.declared.tree.TyExp.{TyExp}
use Rattle.hume_ast.specs.Places.{kinds}
use Rattle.parse_readers.specs.inner.Readers.{Reader, ◌>>=◌, next, behind, is_word, is_sign, after, led, made, both, closed, listed, maybe, pick, lower_name, upper_name, port_name, number_of}
use Rattle.parse_readers.specs.inner.Types.{types}
use Rattle.parse_readers.specs.inner.Declarations.{whole_decl, sum_of, constructor, exn_of, starts_type, box_of, sides, rules, stream_of, way, wire_of, wire_end, wire_depth, first_value, expression}
use Rattle.parse_readers.proofs.TypesRead.{types_read}
use Rattle.parse_readers.proofs.DeclarationParts.{first_type}
use Rattle.parse_readers.proofs.Forms.{shrinks}
use Rattle.parse_errors.proofs.ReportedPlaces.{kinds_length}

pub types_shrink : (room : ℕ) (ks : List Kind) (x : TyExp × List Kind) → types room ks ≡ Ok x → length x.1 < length ks
types_shrink room ks x e = shrinks (types_read room) starts_type (λ t rest f. first_type t rest) (λ t rest f. tt) ks x e

pub whole_data : (ks : List Kind) → next (is_word word.Data) ks ≡ true
    → whole_decl MAX_DEPTH ks ≡ made sum_of (both (closed (pick upper_name) (Sign symbol.Equals)) (closed (listed symbol.Bar (constructor MAX_DEPTH)) (Sign symbol.Semicolon))) (behind ks)
whole_data [] t = cc
whole_data (k ∷ ks) t = rw t

pub whole_exception : (ks : List Kind) → next (is_word word.Data) ks ≡ false → next (is_word word.Exception) ks ≡ true
    → whole_decl MAX_DEPTH ks ≡ made exn_of (both (pick upper_name) (closed (maybe starts_type (types MAX_DEPTH)) (Sign symbol.Semicolon))) (behind ks)
whole_exception [] a t = cc
whole_exception (k ∷ ks) a t = rw (a, t)

pub whole_box : (ks : List Kind) → next (is_word word.Data) ks ≡ false → next (is_word word.Exception) ks ≡ false → next (is_word word.Box) ks ≡ true
    → whole_decl MAX_DEPTH ks ≡ made box_of (both (closed (pick lower_name) (Word word.In)) (both (sides MAX_DEPTH) (rules MAX_DEPTH))) (behind ks)
whole_box [] a b t = cc
whole_box (k ∷ ks) a b t = rw (a, b, t)

pub whole_stream : (ks : List Kind) → next (is_word word.Data) ks ≡ false → next (is_word word.Exception) ks ≡ false → next (is_word word.Box) ks ≡ false → next (is_word word.Stream) ks ≡ true
    → whole_decl MAX_DEPTH ks ≡ made stream_of (both (pick lower_name) (both way (closed (pick port_name) (Sign symbol.Semicolon)))) (behind ks)
whole_stream [] a b c t = cc
whole_stream (k ∷ ks) a b c t = rw (a, b, c, t)

pub whole_wire : (ks : List Kind) → next (is_word word.Data) ks ≡ false → next (is_word word.Exception) ks ≡ false → next (is_word word.Box) ks ≡ false → next (is_word word.Stream) ks ≡ false → next (is_word word.Wire) ks ≡ true
    → whole_decl MAX_DEPTH ks ≡ made wire_of (both (closed wire_end (Word word.To)) (both wire_end (both wire_depth (closed (first_value MAX_DEPTH) (Sign symbol.Semicolon))))) (behind ks)
whole_wire [] a b c d t = cc
whole_wire (k ∷ ks) a b c d t = rw (a, b, c, d, t)

pub whole_none : (ts : List Token) → next (is_word word.Data) (kinds ts) ≡ false → next (is_word word.Exception) (kinds ts) ≡ false → next (is_word word.Box) (kinds ts) ≡ false → next (is_word word.Stream) (kinds ts) ≡ false → next (is_word word.Wire) (kinds ts) ≡ false
    → whole_decl MAX_DEPTH (kinds ts) ≡ Err (false, length ts)
whole_none ts a b c d e = rw (a, b, c, d, e) (ap (λ m. Err (false, m)) (kinds_length ts))

pub maybe_some : {A : Type 0} (test : Kind → Bool) (p : Reader A) (ks : List Kind) → next test ks ≡ true → maybe test p ks ≡ made Some p ks
maybe_some test p ks t = rw t

pub maybe_none : {A : Type 0} (test : Kind → Bool) (p : Reader A) (ks : List Kind) → next test ks ≡ false → maybe test p ks ≡ Ok (None, ks)
maybe_none test p ks t = rw t

pub carried_some : (ks : List Kind) → next starts_type ks ≡ true → maybe starts_type (types MAX_DEPTH) ks ≡ made Some (types MAX_DEPTH) ks
carried_some ks t = maybe_some starts_type (types MAX_DEPTH) ks t

pub carried_none : (ks : List Kind) → next starts_type ks ≡ false → maybe starts_type (types MAX_DEPTH) ks ≡ Ok (None, ks)
carried_none ks t = maybe_none starts_type (types MAX_DEPTH) ks t

pub way_from : (ks : List Kind) → next (is_word word.From) ks ≡ true → way ks ≡ Ok (true, behind ks)
way_from [] t = cc
way_from (k ∷ ks) t = rw t

pub way_to : (ks : List Kind) → next (is_word word.From) ks ≡ false → way ks ≡ (after (Word word.To) ks >>= λ rest. Ok (false, rest))
way_to [] t = refl
way_to (k ∷ ks) t = rw t

pub end_input : (ks : List Kind) → next (is_sign symbol.Dot) ks ≡ true → maybe (is_sign symbol.Dot) (led (Sign symbol.Dot) (pick lower_name)) ks ≡ made Some (pick lower_name) (behind ks)
end_input [] t = cc
end_input (k ∷ ks) t = rw t

pub end_alone : (ks : List Kind) → next (is_sign symbol.Dot) ks ≡ false → maybe (is_sign symbol.Dot) (led (Sign symbol.Dot) (pick lower_name)) ks ≡ Ok (None, ks)
end_alone ks t = maybe_none (is_sign symbol.Dot) (led (Sign symbol.Dot) (pick lower_name)) ks t

pub depth_some : (ks : List Kind) → next (is_sign symbol.At) ks ≡ true → wire_depth ks ≡ made Some (pick number_of) (behind ks)
depth_some [] t = cc
depth_some (k ∷ ks) t = rw t

pub depth_none : (ks : List Kind) → next (is_sign symbol.At) ks ≡ false → wire_depth ks ≡ Ok (None, ks)
depth_none ks t = rw t

pub first_some : (ks : List Kind) → next (is_word word.Initial) ks ≡ true → first_value MAX_DEPTH ks ≡ made Some (expression MAX_DEPTH) (behind ks)
first_some [] t = cc
first_some (k ∷ ks) t = rw t

pub first_none : (ks : List Kind) → next (is_word word.Initial) ks ≡ false → first_value MAX_DEPTH ks ≡ Ok (None, ks)
first_none ks t = rw t

pub ruleset whole_steps = (whole_data, whole_exception, whole_box, whole_stream, whole_wire, whole_none)

pub ruleset carried_steps = (carried_some, carried_none)

pub ruleset way_steps = (way_from, way_to)

pub ruleset end_steps = (end_input, end_alone)

pub ruleset depth_steps = (depth_some, depth_none)

pub ruleset first_steps = (first_some, first_none)

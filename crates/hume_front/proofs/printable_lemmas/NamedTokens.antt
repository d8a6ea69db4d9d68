-- Names of constructors among the tokens of a source.
use Rattle.std.proofs.Common.{◌≡◌, ℕ, ◌+◌, nat_le, ◌==◌, ◌||◌, Bool, true, false, List, [], ◌∷◌, length, refl, sym, subst}
use Rattle.std.specs.List.{list_all, AllByRecursion}
use Rattle.std.proofs.lemmas.Bool.{and_parts}
use Rattle.std.proofs.lemmas.List.Elements.{recursion_from_All}
use Rattle.hume_base.specs.declared.token.Kind.{Kind}
use Rattle.hume_base.specs.declared.token.Kind.TheVariants.{Lower, Upper, Number, Letter, Quoted, Word, Sign}
use Rattle.hume_base.specs.declared.token.Token.{Token}
use Rattle.hume_ast.specs.Fits.{Each}
use Rattle.hume_ast.specs.Places.{kinds}
use Rattle.hume_lex.specs.Spelling.{IsName, Spells, is_small, is_capital, is_digit, is_name_byte, underscore}
use Rattle.hume_lex.specs.Reading.{Piece, gap, token, AreLongest, tokens_at}
use Rattle.hume_lex.specs.BadPlaces.{IsTaken, IsRead}
use Rattle.hume_text.specs.Read.{is_name_byte as is_text_byte}
use Rattle.hume_text.specs.Names.{is_con_name, IsConName}

-- a name that begins with a capital is one of a constructor
abbrev pub IsNamed : Kind → Type 0
IsNamed (Upper name) = IsConName name
IsNamed _ = Unit {0}

-- letters first, whatever their case
grouped : (small capital digit underscored : Bool) → (small || capital || digit || underscored) ≡ true
    → ((small || capital) || digit || underscored) ≡ true
grouped true capital digit underscored h = refl
grouped false capital digit underscored h = h

name_bytes : (bytes : List ℕ) → AllByRecursion (λ (byte : ℕ). is_name_byte byte ≡ true) bytes → list_all is_text_byte bytes ≡ true
name_bytes [] h = refl
name_bytes (byte ∷ bytes) h =
    rw (grouped (is_small byte) (is_capital byte) (is_digit byte) (byte == underscore) h.0) (name_bytes bytes h.1)

capital_name : (name : List ℕ) → IsName is_capital name → is_con_name name ≡ true
capital_name [] h = absurd h
capital_name (byte ∷ bytes) h =
    let ends = and_parts (nat_le 65 byte) (nat_le byte 90) h.0 in
    rw (ends.0, ends.1) (name_bytes bytes h.1)

named : (kind : Kind) (bytes : List ℕ) → Spells kind bytes → IsTaken kind → IsNamed kind
named (Lower name) bytes s t = tt
named (Upper name) bytes s t = record { form = capital_name name (subst (IsName is_capital) s.0 s.1); short = t }
named (Quoted text) bytes s t = tt
named (Number n) bytes s t = tt
named (Letter byte) bytes s t = tt
named (Word word) bytes s t = tt
named (Sign sign) bytes s t = tt

each_named : (place : ℕ) (pieces : List Piece) (rest : List ℕ) → AreLongest pieces rest → AllByRecursion (λ (t : Token). IsTaken t.kind) (tokens_at place pieces)
    → Each IsNamed (kinds (tokens_at place pieces))
each_named place [] rest h t = tt
each_named place (gap bytes ∷ pieces) rest h t = each_named (place + length bytes) pieces rest h.2 t
each_named place (token kind bytes ∷ pieces) rest h t = (named kind bytes h.0 t.0, each_named (place + length bytes) pieces rest h.2 t.1)

-- all names of a source that begin with a capital
pub kinds_named : (text : List ℕ) (tokens : List Token) → IsRead text tokens → Each IsNamed (kinds tokens)
kinds_named text tokens h =
    let taken = recursion_from_All (λ (t : Token). IsTaken t.kind) tokens h.1.1 in
    subst (λ ts. Each IsNamed (kinds ts)) h.0.same
    (each_named 0 h.0.pieces [] h.0.longest (subst (AllByRecursion (λ (t : Token). IsTaken t.kind)) (sym h.0.same) taken))

-- Reading something from the front of a list of tokens, as functions on lists.
use Rattle.std.specs.Prelude.{ℕ, zero, suc, List, [], ◌∷◌, length, Bool, true, false, if◌then◌else◌, bytes_eq, Option, Some, None, Result, Ok, Err}
use Rattle.hume_base.specs.Keywords.{keyword_text}
use Rattle.hume_base.specs.Symbols.{symbol_text}
use Rattle.hume_base.specs.declared.keyword.Keyword.{Keyword}
use Rattle.hume_base.specs.declared.symbol.Symbol.{Symbol}
use Rattle.hume_base.specs.declared.token.Kind.{Kind}
use Rattle.hume_base.specs.declared.token.Kind.TheVariants.{Lower, Upper, Number, Quoted, Word, Sign}

-- Which token is wrong: whether it is so only for want of depth, and how many tokens are left, from it on.
abbrev pub Wrong : Type 0
Wrong = Bool × ℕ

-- What is read, and the tokens behind it.
abbrev pub Reader : Type 0 → Type 0
Reader A = List Kind → Result (A × List Kind) Wrong

infixl 10 ◌>>=◌
abbrev pub ◌>>=◌ : {A B : Type 0} → Result A Wrong → (A → Result B Wrong) → Result B Wrong
(Ok x) >>= f = f x
(Err e) >>= f = Err e

-- nothing goes on with the next token
abbrev pub stop : {A : Type 0} → List Kind → Result A Wrong
stop ks = Err (false, length ks)

-- something goes on with the next token, but deeper than there is room
abbrev pub too_deep : {A : Type 0} → List Kind → Result A Wrong
too_deep ks = Err (true, length ks)

-- whether there is a next token, and it passes the test
abbrev pub next : (Kind → Bool) → List Kind → Bool
next test [] = false
next test (k ∷ ks) = test k

abbrev pub behind : List Kind → List Kind
behind [] = []
behind (k ∷ ks) = ks

-- whether two are the same, seen by their texts
abbrev pub same_symbol : Symbol → Symbol → Bool
same_symbol a b = bytes_eq (symbol_text a) (symbol_text b)

abbrev pub same_keyword : Keyword → Keyword → Bool
same_keyword a b = bytes_eq (keyword_text a) (keyword_text b)

abbrev pub is_sign : Symbol → Kind → Bool
is_sign symbol (Sign other) = same_symbol other symbol
is_sign symbol _ = false

abbrev pub is_word : Keyword → Kind → Bool
is_word keyword (Word other) = same_keyword other keyword
is_word keyword _ = false

-- whether it is this symbol or keyword
abbrev pub is_token : Kind → Kind → Bool
is_token (Sign symbol) k = is_sign symbol k
is_token (Word keyword) k = is_word keyword k
is_token _ k = false

-- the tokens behind this symbol or keyword
abbrev pub after : Kind → List Kind → Result (List Kind) Wrong
after token ks = if next (is_token token) ks then Ok (behind ks) else stop ks

-- a symbol or keyword, and what is read behind it
abbrev pub led : {A : Type 0} → Kind → Reader A → Reader A
led token p ks = after token ks >>= p

-- what is read, and a symbol or keyword behind it
abbrev pub closed : {A : Type 0} → Reader A → Kind → Reader A
closed p token ks = p ks >>= λ a. after token a.1 >>= λ rest. Ok (a.0, rest)

-- nothing is taken
abbrev pub give : {A : Type 0} → A → Reader A
give a ks = Ok (a, ks)

-- one after the other
abbrev pub both : {A B : Type 0} → Reader A → Reader B → Reader (A × B)
both p q ks = p ks >>= λ a. q a.1 >>= λ b. Ok ((a.0, b.0), b.1)

-- made of what is read
abbrev pub made : {A B : Type 0} → (A → B) → Reader A → Reader B
made f p ks = p ks >>= λ a. Ok (f a.0, a.1)

-- one by the next token, or else the other
abbrev pub choice : {A : Type 0} → (Kind → Bool) → Reader A → Reader A → Reader A
choice test p q ks = if next test ks then p ks else q ks

-- the first of these ways whose test the next token passes
abbrev pub alternatives : {A : Type 0} → List ((Kind → Bool) × Reader A) → Reader A
alternatives [] = stop
alternatives (way ∷ ways) = choice way.0 way.1 (alternatives ways)

abbrev pub any_token : Kind → Bool
any_token k = true

abbrev pub picked : {A : Type 0} → Option A → List Kind → List Kind → Result (A × List Kind) Wrong
picked None all ks = stop all
picked (Some a) all ks = Ok (a, ks)

-- what the next token says
abbrev pub pick : {A : Type 0} → (Kind → Option A) → Reader A
pick f [] = stop []
pick f (k ∷ ks) = picked (f k) (k ∷ ks) ks

-- only where room is left
abbrev pub opens : {A : Type 0} → ℕ → Reader A → Reader A
opens zero p ks = too_deep ks
opens (suc room) p ks = p ks

-- one more as long as the next token passes the test, with a bound on how many
abbrev pub turns : {A : Type 0} → (Kind → Bool) → Reader A → ℕ → Reader (List A)
turns test p zero ks = Ok ([], ks)
turns test p (suc n) ks = if next test ks then (p ks >>= λ a. turns test p n a.1 >>= λ others. Ok (a.0 ∷ others.0, others.1)) else Ok ([], ks)

-- one more as long as the next token passes the test
unfoldable pub many : {A : Type 0} → (Kind → Bool) → Reader A → Reader (List A)
many test p ks = turns test p (length ks) ks

-- names, numbers and ports
abbrev pub lower_name : Kind → Option (List ℕ)
lower_name (Lower name) = Some name
lower_name _ = None

abbrev pub upper_name : Kind → Option (List ℕ)
upper_name (Upper name) = Some name
upper_name _ = None

abbrev pub number_of : Kind → Option ℕ
number_of (Number amount) = Some amount
number_of _ = None

abbrev pub port_name : Kind → Option (List ℕ)
port_name (Quoted name) = Some name
port_name _ = None

-- a first one and others
abbrev pub cons : {A : Type 0} → A × List A → List A
cons items = items.0 ∷ items.1

-- one or more, with the sign between each two
abbrev pub listed : {A : Type 0} → Symbol → Reader A → Reader (List A)
listed sign p = made cons (both p (many (is_sign sign) (led (Sign sign) p)))

-- two or more, with the sign between each two
abbrev pub several : {A : Type 0} → Symbol → Reader A → Reader (List A)
several sign p = made cons (both (closed p (Sign sign)) (listed sign p))

-- what may be there, by the next token
abbrev pub maybe : {A : Type 0} → (Kind → Bool) → Reader A → Reader (Option A)
maybe test p = choice test (made Some p) (give None)

-- The keywords and their texts.
use Rattle.std.specs.Prelude.{ℕ, List, [], ◌∷◌, Option, codes, bytes_eq}
use Rattle.std.specs.List.{find}
use Rattle.hume_base.specs.declared.keyword.Keyword.{Keyword}
use Rattle.hume_base.specs.declared.keyword.Keyword.TheVariants as keyword

-- how a keyword is written
abbrev pub keyword_text : Keyword → List ℕ
keyword_text keyword.Data = codes "data"
keyword_text keyword.Exception = codes "exception"
keyword_text keyword.Box = codes "box"
keyword_text keyword.In = codes "in"
keyword_text keyword.Out = codes "out"
keyword_text keyword.Match = codes "match"
keyword_text keyword.Fair = codes "fair"
keyword_text keyword.Handle = codes "handle"
keyword_text keyword.Stream = codes "stream"
keyword_text keyword.From = codes "from"
keyword_text keyword.To = codes "to"
keyword_text keyword.Wire = codes "wire"
keyword_text keyword.Initial = codes "initial"
keyword_text keyword.Let = codes "let"
keyword_text keyword.If = codes "if"
keyword_text keyword.Then = codes "then"
keyword_text keyword.Else = codes "else"
keyword_text keyword.Case = codes "case"
keyword_text keyword.Of = codes "of"
keyword_text keyword.End = codes "end"
keyword_text keyword.Raise = codes "raise"
keyword_text keyword.As = codes "as"
keyword_text keyword.True = codes "true"
keyword_text keyword.False = codes "false"
keyword_text keyword.Bool = codes "bool"
keyword_text keyword.Char = codes "char"
keyword_text keyword.Int = codes "int"
keyword_text keyword.Nat = codes "nat"
keyword_text keyword.Vector = codes "vector"
keyword_text keyword.Div = codes "div"
keyword_text keyword.Mod = codes "mod"
keyword_text keyword.And = codes "and"
keyword_text keyword.Or = codes "or"
keyword_text keyword.Not = codes "not"
keyword_text keyword.Update = codes "update"

-- all of them
abbrev pub keywords : List Keyword
keywords =
    keyword.Data ∷ keyword.Exception ∷ keyword.Box ∷ keyword.In ∷ keyword.Out ∷ keyword.Match ∷
    keyword.Fair ∷ keyword.Handle ∷ keyword.Stream ∷ keyword.From ∷ keyword.To ∷ keyword.Wire ∷
    keyword.Initial ∷ keyword.Let ∷ keyword.If ∷ keyword.Then ∷ keyword.Else ∷ keyword.Case ∷ keyword.Of ∷
    keyword.End ∷ keyword.Raise ∷ keyword.As ∷ keyword.True ∷ keyword.False ∷ keyword.Bool ∷ keyword.Char ∷
    keyword.Int ∷ keyword.Nat ∷ keyword.Vector ∷ keyword.Div ∷ keyword.Mod ∷ keyword.And ∷ keyword.Or ∷
    keyword.Not ∷ keyword.Update ∷ []

-- the keyword that is spelled so, if there is one
abbrev pub keyword_of : List ℕ → Option Keyword
keyword_of text = find (λ keyword. bytes_eq (keyword_text keyword) text) keywords

-- The words of a call: `file NAME SOURCE`, `header NAME SOURCE` or `main NAME SOURCE`.
use Rattle.std.specs.Prelude.{ℕ, Bool, false, ◌&&◌, List, [], ◌∷◌, Option, None, Some, if◌then◌else◌, codes}
use Rattle.std.specs.List.{list_all}
use Rattle.std.specs.Str.{bytes_eq}
use Rattle.hume_text.specs.Read.{is_letter, is_name_byte}
use Rattle.hume_c.specs.declared.words.Kind.{Kind}
use Rattle.hume_c.specs.declared.words.Kind.TheVariants.{File, Header, Main}

-- the text for which a word asks
abbrev pub kind_of : List ℕ → Option Kind
kind_of word =
    if bytes_eq word (codes "file") then Some File
    else (if bytes_eq word (codes "header") then Some Header
    else (if bytes_eq word (codes "main") then Some Main else None))

-- a name of a program: a letter, and then letters, digits and `_`
abbrev pub is_name : List ℕ → Bool
is_name [] = false
is_name (first ∷ others) = is_letter first && list_all is_name_byte others

-- what words ask for: a text of the program of that name, made of the source in that port
pub record Request : Type 0 where
  pub kind : Kind
  pub name : List ℕ
  pub source : List ℕ

abbrev pub request_by : Option Kind → List ℕ → List ℕ → Option Request
request_by None name source = None
request_by (Some kind) name source = if is_name name then Some (record { kind = kind; name = name; source = source }) else None

abbrev pub request_of : List (List ℕ) → Option Request
request_of (kind ∷ name ∷ source ∷ []) = request_by (kind_of kind) name source
request_of _ = None

-- What the scan tells where a run ends a piece.
use Rattle.std.proofs.Common.{◌≡◌, ℕ, ◌+◌, ◌-◌, ◌<◌, ◌≤◌, List, [], ◌∷◌, length, take, drop, get_or, true, Some, Option, None, refl, ap, ◌∙◌, subst, arith, length-append}
use Rattle.std.specs.List.{prefix_len}
use Rattle.std.proofs.lemmas.Bool.{and_from, lt-ltb, le-leb}
use Rattle.std.proofs.lemmas.List.{take_all}
use Rattle.hume_base.specs.declared.keyword.Keyword.{Keyword}
use Rattle.hume_base.specs.declared.limits.TheConstants.{MAX_PORT_NAME_BYTES}
use Rattle.hume_base.specs.declared.token.Kind.TheVariants as kind
use Rattle.hume_lex.specs.declared.scan.Front.{Front}
use Rattle.hume_lex.specs.declared.scan.Front.TheVariants as front
use Rattle.hume_lex.specs.Spelling.{is_quotable, is_no_newline}
use Rattle.hume_lex.specs.inner.Scan.{run, small_piece, starts_with_byte, is_port_name, quoted_piece, sign_piece}
use Rattle.hume_lex.specs.inner.View.{Shows, IsScan}
use Rattle.hume_lex.proofs.Runs.{run_length, take-prefix}

-- a name or a keyword has the bytes of its text
pub small_scan : (told : Front) (n : ℕ) (o : Option Keyword) (text : List ℕ) → Shows told (small_piece o text) → n ≡ length text → IsScan (Some (told, n)) (Some (small_piece o text))
small_scan told n None text shows e = (shows, e)
small_scan told n (Some word) text shows e = (shows, e)

pub comment_scan : (byte n : ℕ) (after : List ℕ) → byte ≡ 45 → get_or after 0 0 ≡ 45 → 1 ≤ length after → n ≡ prefix_len is_no_newline (take (length after - 1) (drop 1 after)) → IsScan (Some (front.Gap, 2 + n)) (sign_piece byte after)
comment_scan byte n [] first second some e = absurd (omega (arith, some))
comment_scan byte n (next ∷ rest) first second some e =
    let rest_is : take (length (next ∷ rest) - 1) (drop 1 (next ∷ rest)) ≡ rest = take_all _ rest (omega arith) in
    let len : n ≡ length (run is_no_newline rest) = e ∙ ap (prefix_len is_no_newline) rest_is ∙ run_length is_no_newline rest in
    rw (first, second) (tt, omega (arith, len))

pub quoted_scan : (n : ℕ) (after text : List ℕ) → n ≡ prefix_len is_quotable after → text ≡ take n after → 0 < n → n ≤ MAX_PORT_NAME_BYTES → starts_with_byte 34 (drop n after) ≡ true → IsScan (Some (front.Token (kind.Quoted text), n + 2)) (quoted_piece after)
quoted_scan n after text e t low high closes =
    let len : n ≡ length (run is_quotable after) = e ∙ run_length is_quotable after in
    let text_is : text ≡ run is_quotable after = t ∙ ap (λ m. take m after) e ∙ take-prefix is_quotable after in
    let fits : is_port_name (run is_quotable after) (drop (length (run is_quotable after)) after) ≡ true =
    and_from _ _ (and_from _ _ (lt-ltb 0 (length (run is_quotable after)) (omega (arith, len))) (le-leb (length (run is_quotable after)) MAX_PORT_NAME_BYTES (omega (arith, len, high))))
    (subst (λ m. starts_with_byte 34 (drop m after) ≡ true) len closes) in
    rw (fits, text_is) ((refl, tt), omega (arith, len, length-append (run is_quotable after) (34 ∷ [])))

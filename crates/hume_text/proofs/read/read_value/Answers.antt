use Rattle.std.proofs.Common.{◌≡◌, ◌∙◌, List, [], length, take, ℕ, true, false, ◌==◌, Some, None, ap, sym}
use Rattle.hume_text.specs.inner.Readers.{read_with, read_named}
use Rattle.hume_text.specs.Read.{is_blank, behind}
use Rattle.hume_text.proofs.LinesRead.{line_sound, none_read, no_bytes, blank_read, words_read}
use Rattle.hume_text.proofs.read.read_value.Goals as goal

pub returns-in-None-clause-readable : goal.returns-in-None-clause-readable
returns-in-None-clause-readable c =
    let types = c.args.types.now in
    let room = length c.args.into.now in
    let none : read_with room (read_named types room (length types.sums)) c.args.ty.now [] c.args.line.now ≡ None =
    ap (λ n. read_with room (read_named types room n) c.args.ty.now [] c.args.line.now) (sym c.len.ensures) ∙ c.in-None.ensures.read in (
      λ no. absurd (let t : false ≡ true = no in cc),
      λ is. absurd (none_read types c.requires.sizes c.requires.names c.args.ty.now c.requires.printable room c.args.line.now c.requires.room none is),
    )

pub returns-in-Some-clause-readable : goal.returns-in-Some-clause-readable
returns-in-Some-clause-readable c =
    let types = c.args.types.now in
    let room = length c.args.into.now in
    let rest = c.in-Some.rest.now in
    let some : read_with room (read_named types room (length types.sums)) c.args.ty.now [] c.args.line.now ≡ Some (take c.in-Some.field-0-0 c.read_front.new.into, rest) =
    ap (λ n. read_with room (read_named types room n) c.args.ty.now [] c.args.line.now) (sym c.len.ensures) ∙ c.in-Some.ensures.read in
    let empty : c.is_empty.result ≡ (length (behind is_blank rest) == 0) = c.is_empty.ensures ∙ ap (λ (bytes : List ℕ). length bytes == 0) c.skip_blanks.ensures in (
      λ yes. line_sound types c.requires.sizes c.requires.names c.args.ty.now c.requires.printable room c.args.line.now _ rest some
          (no_bytes (behind is_blank rest) (sym empty ∙ yes)),
      λ is. empty ∙ ap (λ (bytes : List ℕ). length bytes == 0)
          (blank_read types c.requires.sizes c.requires.names c.args.ty.now c.requires.printable room c.args.line.now _ rest c.requires.room some is),
    )

pub returns-in-Some-clause-words : goal.returns-in-Some-clause-words
returns-in-Some-clause-words c =
    let types = c.args.types.now in
    let room = length c.args.into.now in
    let some : read_with room (read_named types room (length types.sums)) c.args.ty.now [] c.args.line.now ≡ Some (take c.in-Some.field-0-0 c.read_front.new.into, c.in-Some.rest.now) =
    ap (λ n. read_with room (read_named types room n) c.args.ty.now [] c.args.line.now) (sym c.len.ensures) ∙ c.in-Some.ensures.read in
    λ _ value typed text. words_read types c.requires.sizes c.requires.names c.args.ty.now c.requires.printable room c.args.line.now c.in-Some.rest.now
    c.read_front.new.into c.in-Some.field-0-0 value c.requires.room c.read_front.ensures.room some typed text

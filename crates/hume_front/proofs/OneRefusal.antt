-- A source that breaks a rule breaks one, at one line, and isn't accepted.
use Rattle.std.proofs.Common.{◌≡◌, ℕ, List, length, refl, sym, ap, ◌∙◌, subst, arith}
use Rattle.hume_base.specs.declared.rule.Rule.{Rule}
use Rattle.hume_base.specs.declared.rule.Refusal.{Refusal}
use Rattle.hume_base.specs.declared.token.Token.{Token}
use Rattle.hume_base.specs.Places.{line_at}
use Rattle.hume_ast.specs.declared.tree.Program.{Program}
use Rattle.hume_ast.specs.Places.{StandsFor}
use Rattle.hume_lex.specs.declared.lexer.LexError.{LexError}
use Rattle.hume_lex.specs.BadPlaces.{IsRead, BreaksTokens, bad_place}
use Rattle.hume_lex.proofs.Unique.{one_reading, one_bad_place, read_no_bad_place}
use Rattle.parse_errors.specs.declared.parse_error.ParseError.{ParseError}
use Rattle.parse_errors.specs.WrongTokens.{BreaksGrammar}
use Rattle.parse_errors.proofs.Answered.{one_place, none_stands}
use Rattle.check_rules.proofs.OneFinding.{one_least}
use Rattle.hume_check.specs.Refused.{IsRefusedFor, refusal_of}
use Rattle.hume_front.specs.declared.acceptance.Accepted.{Accepted}
use Rattle.hume_front.specs.Accepted.{IsProgramOf, IsAccepted, Breaks, too_long, bad_token, no_program, in_program}
use Rattle.hume_front.specs.Broken.{BreaksProgram}
use Rattle.hume_front.proofs.OneProgram.{one_program}
use Rattle.hume_front.proofs.Reported.{rule_of_lexer, rule_of_parser, wrong_place, reported_by_lexer, reported_by_parser}

module _ (text : List ℕ) where
  same_tokens : (tokens others : List Token) → IsRead text tokens → IsRead text others → tokens ≡ others
  same_tokens tokens others a b = one_reading text tokens others a.0 b.0

  -- tokens that are read have no bad place
  pub unbroken : (tokens : List Token) (rule : Rule) (place : ℕ) → IsRead text tokens → BreaksTokens text rule place → ⊥
  unbroken tokens rule place read breaks = let e = reported_by_lexer text rule place breaks in read_no_bad_place text tokens e.0 read e.1

  -- tokens that stand for a program have no wrong place
  pub apart : (tokens : List Token) (rule : Rule) (place : ℕ) (program : Program) → IsRead text tokens → BreaksGrammar tokens (length text) rule place
      → IsProgramOf text program → ⊥
  apart tokens rule place program read breaks is =
      let e = reported_by_parser tokens (length text) rule place breaks in
      none_stands tokens (length text) e.0 program e.1 (subst (λ ts. StandsFor ts program) (same_tokens is.tokens tokens is.read read) is.spelled)

  abbrev at : Rule → ℕ → Refusal
  at rule place = record { rule = rule; line = line_at text place }

  one_bad_token : (rule other : Rule) (place here : ℕ) → BreaksTokens text rule place → BreaksTokens text other here → at rule place ≡ at other here
  one_bad_token rule other place here x y =
      let e = reported_by_lexer text rule place x in
      let f = reported_by_lexer text other here y in
      (λ i. at (sym e.2 i) (sym e.3 i)) ∙ ap (λ (error : LexError). at (rule_of_lexer error) (bad_place error)) (one_bad_place text e.0 f.0 e.1 f.1) ∙ (λ i. at (f.2 i) (f.3 i))

  one_wrong_place : (tokens : List Token) (rule other : Rule) (place here : ℕ) → BreaksGrammar tokens (length text) rule place
      → BreaksGrammar tokens (length text) other here → at rule place ≡ at other here
  one_wrong_place tokens rule other place here x y =
      let e = reported_by_parser tokens (length text) rule place x in
      let f = reported_by_parser tokens (length text) other here y in
      (λ i. at (sym e.2 i) (sym e.3 i))
      ∙ ap (λ (error : ParseError). at (rule_of_parser error) (wrong_place error)) (one_place tokens (length text) e.0 f.0 e.1 f.1) ∙ (λ i. at (f.2 i) (f.3 i))

  one_in_program : (program : Program) (r s : Refusal) → IsRefusedFor (BreaksProgram text program) text program.decls r → IsRefusedFor (BreaksProgram text program) text program.decls s → r ≡ s
  one_in_program program r s a b = a.is ∙ ap (refusal_of text program.decls) (one_least (BreaksProgram text program) a.finding b.finding a.least b.least) ∙ sym b.is

  pub one_refusal : (r s : Refusal) → Breaks text r → Breaks text s → r ≡ s
  one_refusal r s (too_long long) (too_long longer) = refl
  one_refusal r s (too_long long) (bad_token short c p bad) = absurd (omega (arith, long, short))
  one_refusal r s (too_long long) (no_program short tokens read c p wrong) = absurd (omega (arith, long, short))
  one_refusal r s (too_long long) (in_program p is f refused) = absurd (omega (arith, long, is.short))
  one_refusal r s (bad_token short c p bad) (too_long long) = absurd (omega (arith, long, short))
  one_refusal r s (bad_token short c p bad) (bad_token short2 d q bad2) = one_bad_token c d p q bad bad2
  one_refusal r s (bad_token short c p bad) (no_program short2 tokens read d q wrong) = absurd (unbroken tokens c p read bad)
  one_refusal r s (bad_token short c p bad) (in_program q is f refused) = absurd (unbroken is.tokens c p is.read bad)
  one_refusal r s (no_program short tokens read c p wrong) (too_long long) = absurd (omega (arith, long, short))
  one_refusal r s (no_program short tokens read c p wrong) (bad_token short2 d q bad) = absurd (unbroken tokens d q read bad)
  one_refusal r s (no_program short tokens read c p wrong) (no_program short2 others read2 d q wrong2) =
      one_wrong_place tokens c d p q wrong (subst (λ ts. BreaksGrammar ts (length text) d q) (same_tokens others tokens read2 read) wrong2)
  one_refusal r s (no_program short tokens read c p wrong) (in_program q is f refused) = absurd (apart tokens c p q read wrong is)
  one_refusal r s (in_program p is f refused) (too_long long) = absurd (omega (arith, long, is.short))
  one_refusal r s (in_program p is f refused) (bad_token short d q bad) = absurd (unbroken is.tokens d q is.read bad)
  one_refusal r s (in_program p is f refused) (no_program short tokens read d q wrong) = absurd (apart tokens d q p read wrong is)
  one_refusal r s (in_program p is f refused) (in_program q is2 g refused2) =
      let same = one_program text q p is2 is in
      one_in_program p r s refused (subst (λ (program : Program). IsRefusedFor (BreaksProgram text program) text program.decls s) same refused2)

  pub accepted_unbroken : (accepted : Accepted) (r : Refusal) → IsAccepted text accepted → Breaks text r → ⊥
  accepted_unbroken accepted r a (too_long long) = omega (arith, long, a.program.short)
  accepted_unbroken accepted r a (bad_token short c p bad) = unbroken a.program.tokens c p a.program.read bad
  accepted_unbroken accepted r a (no_program short tokens read c p wrong) = apart tokens c p accepted.program read wrong a.program
  accepted_unbroken accepted r a (in_program p is f refused) =
      let same = one_program text p accepted.program is a.program in
      let here = subst (λ (program : Program). IsRefusedFor (BreaksProgram text program) text program.decls f) same refused in
      a.fine here.finding here.least.0

use Rattle.std.proofs.Common.{◌≡◌, ◌-◌, ◌≤◌, ℕ, List, length, ap, sym, ◌∙◌, subst, arith, rules}
use Rattle.std.specs.Option.{is_some}
use Rattle.box_code.specs.Reading.{instr_at}
use Rattle.box_code.specs.Machine.{Setting}
use Rattle.box_machine.specs.inner.Stepping.{EndsIn, finished, machine_in}
use Rattle.box_machine.proofs.Held.{keeps_on}
use Rattle.box_machine.proofs.Decoded.{path_within}
use Rattle.box_machine.proofs.Ending.{code_there, some_left, turn_can, turn_goes, turn_ends}
use Rattle.box_machine.proofs.code_run.run_code.Goals as goal

pub decode_words-instr-requires-clause-there : goal.decode_words-instr-requires-clause-there
decode_words-instr-requires-clause-there c =
    let given = c.requires.ends in
    let row = length c.args.words.now in
    let room = c.args.heap.now.room in
    let m = machine_in c.loop-new.registers c.loop-new.words c.loop-new.heap in
    let ends = subst (λ o. EndsIn o row room) (sym (c.loop-new.invariant.same given.0 given.1)) given.2 in
    let code : given.0.code ≡ c.words-code.result.now = ap (λ (s : Setting). s.code) given.1.same ∙ sym c.words-code.ensures.same in
    ap (λ ws. is_some (instr_at ws c.loop-new.registers.at)) (sym code) ∙ code_there given.0 c.loop-new.left row room m ends

pub overflow_sub-left : goal.overflow_sub-left
overflow_sub-left c =
    let given = c.requires.ends in
    let row = length c.args.words.now in
    let room = c.args.heap.now.room in
    let ends = subst (λ o. EndsIn o row room) (sym (c.loop-new.invariant.same given.0 given.1)) given.2 in
    some_left given.0 c.loop-new.left row room (machine_in c.loop-new.registers c.loop-new.words c.loop-new.heap) ends

pub overflow_sub-result : goal.overflow_sub-result
overflow_sub-result c =
    let given = c.requires.ends in
    let row = length c.args.words.now in
    let room = c.args.heap.now.room in
    let ends = subst (λ o. EndsIn o row room) (sym (c.loop-new.invariant.same given.0 given.1)) given.2 in
    some_left given.0 c.loop-new.left row room (machine_in c.loop-new.registers c.loop-new.words c.loop-new.heap) ends

pub turn-requires-clause-within : goal.turn-requires-clause-within
turn-requires-clause-within c = path_within c.words-code.result.now c.loop-new.registers.at c.decode_words-instr.result.0 c.decode_words-instr.result.1
    c.decode_words-instr.ensures

pub turn-requires-clause-can : goal.turn-requires-clause-can
turn-requires-clause-can c =
    let given = c.requires.ends in
    let row = length c.args.words.now in
    let room = c.args.heap.now.room in
    let ends = subst (λ o. EndsIn o row room) (sym (c.loop-new.invariant.same given.0 given.1)) given.2 in
    let code : given.0.code ≡ c.words-code.result.now = ap (λ (s : Setting). s.code) given.1.same ∙ sym c.words-code.ensures.same in
    let read = ap (λ ws. instr_at ws c.loop-new.registers.at) code ∙ c.decode_words-instr.ensures in
    let long : row ≡ length c.loop-new.words = search rules in
    let short : length given.0.code ≤ 4294967295 = subst (λ (ws : List ℕ). length ws ≤ 4294967295) (sym code) c.words-code.ensures.short in (
      given.0,
      code,
      turn_can given.0 c.loop-new.left c.loop-new.registers c.loop-new.words c.loop-new.heap c.decode_words-instr.result.0 c.decode_words-instr.result.1 read
          row room ends long (sym c.loop-new.invariant.kept.room) short,
    )

pub loop-new-smaller : goal.loop-new-smaller
loop-new-smaller c =
    let given = c.requires.ends in
    let row = length c.args.words.now in
    let room = c.args.heap.now.room in
    let ends = subst (λ o. EndsIn o row room) (sym (c.loop-new.invariant.same given.0 given.1)) given.2 in
    let some = some_left given.0 c.loop-new.left row room (machine_in c.loop-new.registers c.loop-new.words c.loop-new.heap) ends in
    omega (arith, some)

pub loop-new-preserved : goal.loop-new-preserved
loop-new-preserved c =
    let given = c.requires.ends in
    let row = length c.args.words.now in
    let room = c.args.heap.now.room in
    let ends = subst (λ o. EndsIn o row room) (sym (c.loop-new.invariant.same given.0 given.1)) given.2 in
    let some = some_left given.0 c.loop-new.left row room (machine_in c.loop-new.registers c.loop-new.words c.loop-new.heap) ends in
    let code : given.0.code ≡ c.words-code.result.now = ap (λ (s : Setting). s.code) given.1.same ∙ sym c.words-code.ensures.same in
    let does = c.in-Goes.ensures given.0 given.1 code in
    record {
      same = λ setting of.
          let its_code : setting.code ≡ c.words-code.result.now = ap (λ (s : Setting). s.code) of.same ∙ sym c.words-code.ensures.same in
          let read = ap (λ ws. instr_at ws c.loop-new.registers.at) its_code ∙ c.decode_words-instr.ensures in
          turn_goes setting c.loop-new.left c.loop-new.registers c.loop-new.words c.loop-new.heap c.decode_words-instr.result.0 c.decode_words-instr.result.1 read
          c.in-Goes.new c.turn.new.words c.turn.new.heap some (c.in-Goes.ensures setting of its_code)
          ∙ c.loop-new.invariant.same setting of;
      top = does.top;
      kept = keeps_on c.args.heap.now c.loop-new.heap c.turn.new.heap c.loop-new.invariant.kept does.kept;
    }

pub returns-in-Ends-clause-end : goal.returns-in-Ends-clause-end
returns-in-Ends-clause-end c = λ setting of.
    let given = c.requires.ends in
    let row = length c.args.words.now in
    let room = c.args.heap.now.room in
    let ends = subst (λ o. EndsIn o row room) (sym (c.loop-new.invariant.same given.0 given.1)) given.2 in
    let some = some_left given.0 c.loop-new.left row room (machine_in c.loop-new.registers c.loop-new.words c.loop-new.heap) ends in
    let code : setting.code ≡ c.words-code.result.now = ap (λ (s : Setting). s.code) of.same ∙ sym c.words-code.ensures.same in
    let read = ap (λ ws. instr_at ws c.loop-new.registers.at) code ∙ c.decode_words-instr.ensures in
    let stays = c.in-Ends.ensures setting of code in
    sym (c.loop-new.invariant.same setting of)
    ∙ turn_ends setting c.loop-new.left c.loop-new.registers c.loop-new.words c.loop-new.heap c.decode_words-instr.result.0 c.decode_words-instr.result.1 read
    c.in-Ends.mask some stays.finish
    ∙ (λ i. finished setting (c.loop-new.left - 1) c.in-Ends.mask (machine_in (record (sym stays.registers i) { at = c.loop-new.registers.at })
    (sym stays.words i) (sym stays.heap i)))

-- The codes of the rules that a program may break, and the phases in which they are asked.
use Rattle.std.specs.Prelude.{ℕ}
use Rattle.hume_base.specs.declared.rule.Rule.{Rule}
use Rattle.hume_base.specs.declared.rule.Rule.TheVariants.{C10, C11, C12, C20, C30, C31, C32, C33, C40, C41, C42, C43, C44, C45, C50, C51, C52, C53, C54, C55, C56, C57, C60, C61, C70, C71, C72, C73, C74, C75, C76, C77, C78, C79, C90, C91, C92, C93, C94}

-- the code of a rule, which never changes
abbrev pub code_of : Rule → ℕ
code_of C10 = 10
code_of C11 = 11
code_of C12 = 12
code_of C20 = 20
code_of C30 = 30
code_of C31 = 31
code_of C32 = 32
code_of C33 = 33
code_of C40 = 40
code_of C41 = 41
code_of C42 = 42
code_of C43 = 43
code_of C44 = 44
code_of C45 = 45
code_of C50 = 50
code_of C51 = 51
code_of C52 = 52
code_of C53 = 53
code_of C54 = 54
code_of C55 = 55
code_of C56 = 56
code_of C57 = 57
code_of C60 = 60
code_of C61 = 61
code_of C70 = 70
code_of C71 = 71
code_of C72 = 72
code_of C73 = 73
code_of C74 = 74
code_of C75 = 75
code_of C76 = 76
code_of C77 = 77
code_of C78 = 78
code_of C79 = 79
code_of C90 = 90
code_of C91 = 91
code_of C92 = 92
code_of C93 = 93
code_of C94 = 94

-- Of the source's length 1, its tokens 2, its tree 3, its names 4, its counts 5, its types 6, its limits 7, its wires 8, its
-- exceptions 9, its space and work 10, and of the ports, the other programs and the script of a call 11.
abbrev pub phase_of : Rule → ℕ
phase_of C10 = 2
phase_of C11 = 2
phase_of C12 = 2
phase_of C20 = 3
phase_of C30 = 4
phase_of C31 = 4
phase_of C32 = 4
phase_of C33 = 4
phase_of C40 = 6
phase_of C41 = 6
phase_of C42 = 5
phase_of C43 = 5
phase_of C44 = 5
phase_of C45 = 6
phase_of C50 = 8
phase_of C51 = 8
phase_of C52 = 8
phase_of C53 = 8
phase_of C54 = 8
phase_of C55 = 11
phase_of C56 = 11
phase_of C57 = 11
phase_of C60 = 9
phase_of C61 = 9
phase_of C70 = 1
phase_of C71 = 2
phase_of C72 = 7
phase_of C73 = 7
phase_of C74 = 7
phase_of C75 = 10
phase_of C76 = 10
phase_of C77 = 3
phase_of C78 = 10
phase_of C79 = 10
phase_of C90 = 11
phase_of C91 = 11
phase_of C92 = 11
phase_of C93 = 11
phase_of C94 = 11

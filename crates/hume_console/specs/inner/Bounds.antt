-- The ports with which a course begins.
use Rattle.hume_console.specs.Courses.{Bound, Course, ends, leaves}

-- the ports that streams have at first
abbrev pub bound_of : Course → Bound
bound_of (ends bound acts answer) = bound
bound_of (leaves bound acts at later) = bound

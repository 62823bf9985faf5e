use Rattle.std.proofs.Common.{◌≡◌, ◌-◌, ◌≤◌, length, take, drop}
use Rattle.references.specs.Paths.{walked, without_dots, Absolute}
use Rattle.references.specs.Views.{ahead}
use Rattle.references.proofs.removal.remove_dot_segments.Given as goal

abbrev pub invariant-loop-read : goal.invariant-loop-read
invariant-loop-read l = record {
  walked : walked (take l.written l.path) (ahead (drop l.read l.path)) ≡ without_dots l.initial.path;
  rooted : Absolute (drop l.read l.path);
  behind : l.written ≤ l.read;
  within : l.read ≤ length l.path;
  len : length l.path ≡ length l.initial.path;
}

abbrev pub decreases-loop-read : goal.decreases-loop-read
decreases-loop-read l = length l.initial.path - l.read

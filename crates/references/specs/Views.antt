-- What the code holds on its way, as texts. Assumes nothing.
use Rattle.std.specs.Prelude.{ℕ, ◌+◌, ◌<◌, Bool, true, false, cond, ◌&&◌, List, [], ◌∷◌, ◌++◌, length, Some, None, codes, Option}
use Rattle.uri.specs.Cuts.{parts}
use Rattle.uri.specs.Splits.{Split}
use Rattle.std.specs.Option.{option_map}
use Rattle.references.specs.declared.target.Target.{Target}
use Rattle.references.specs.declared.target.TargetPath.{TargetPath}
use Rattle.references.specs.declared.target.TargetPath.TheVariants.{Kept, Merged}
use Rattle.references.specs.Paths.{directory, without_dots}
use Rattle.references.specs.Resolution.{is_there, is_empty, is_rooted, or_else, scheme_text}

-- a place that was found lies before the end
abbrev pub Inside : Option ℕ → ℕ → Type 0
Inside None n = Unit {0}
Inside (Some at) n = at < n

-- the segments of a path that is empty or begins with `/`
abbrev pub ahead : List ℕ → List (List ℕ)
ahead [] = []
ahead (slash ∷ rest) = parts 47 rest

-- a part that may be absent, with a text in front of it
abbrev pub introduced : List ℕ → Option (List ℕ) → List ℕ
introduced mark None = []
introduced mark (Some text) = mark ++ text

-- what a reference stands for, before the dot segments are removed: the path is in two pieces, and may be kept as it is
pub record Pieces : Type 0 where
  pub parts : Split
  pub directory : List ℕ
  pub kept : Bool

-- a path whose dot segments stay
abbrev pub is_kept : TargetPath → Bool
is_kept (Kept path) = true
is_kept (Merged directory path) = false

-- what stands before a path in two pieces
abbrev pub directory_text : TargetPath → List ℕ
directory_text (Kept path) = []
directory_text (Merged directory path) = directory.now

-- the path, or what stands behind its directory
abbrev pub rest_text : TargetPath → List ℕ
rest_text (Kept path) = path.now
rest_text (Merged directory path) = path.now

-- the whole path, before its dot segments go
abbrev pub path_text : TargetPath → List ℕ
path_text p = directory_text p ++ rest_text p

-- a target, as the pieces that it holds
abbrev pub pieces : Target → Pieces
pieces t =
    record {
      parts = record {
        scheme = option_map (λ x. x.now) t.scheme;
        authority = option_map (λ x. x.now) t.authority;
        path = rest_text t.path;
        query = option_map (λ x. x.now) t.query;
        fragment = option_map (λ x. x.now) t.fragment;
      };
      directory = directory_text t.path;
      kept = is_kept t.path;
    }

-- what stands before the path of a reference that has neither scheme nor authority
abbrev pub directory_for : Split → List ℕ → List ℕ
directory_for base path = cond (is_rooted path) [] (cond (is_there base.authority && is_empty base.path) (codes "/") (directory base.path))

abbrev pub chosen : Split → Split → Pieces
chosen base ref =
    cond (is_there ref.scheme)
    (record { parts = ref; directory = []; kept = false })
    (cond (is_there ref.authority)
    (record { parts = record { scheme = base.scheme; authority = ref.authority; path = ref.path; query = ref.query; fragment = ref.fragment }; directory = []; kept = false })
    (cond (is_empty ref.path)
    (record { parts = record { scheme = base.scheme; authority = base.authority; path = base.path; query = or_else ref.query base.query; fragment = ref.fragment }; directory = []; kept = true })
    (record { parts = record { scheme = base.scheme; authority = base.authority; path = ref.path; query = ref.query; fragment = ref.fragment }; directory = directory_for base ref.path; kept = false })))

abbrev pub undotted : Bool → List ℕ → List ℕ
undotted true path = path
undotted false path = without_dots path

-- the parts that the pieces make
abbrev pub meant : Pieces → Split
meant p =
    record {
      scheme = p.parts.scheme;
      authority = p.parts.authority;
      path = undotted p.kept (p.directory ++ p.parts.path);
      query = p.parts.query;
      fragment = p.parts.fragment;
    }

-- how many bytes the pieces have, with their marks
abbrev pub extent : Pieces → ℕ
extent p =
    length (scheme_text p.parts.scheme)
    + (length (introduced (codes "//") p.parts.authority)
    + (length p.directory + length p.parts.path
    + (length (introduced (codes "?") p.parts.query) + length (introduced (codes "#") p.parts.fragment))))

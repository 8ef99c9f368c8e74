-- Paths as bytes. Source: no paper has them; POSIX.1-2024, "Pathname Resolution": slashes stand between the names, a path that begins with
-- one starts at the root, and what a symbolic link holds, where it does not begin with one, starts at the link's own folder.
use Rattle.std.specs.Prelude.{ℕ, zero, suc, ◌+◌, cond, List, [], ◌++◌, eqb, leb, length, take, drop, get_or, None, Option, Some}
use Rattle.byte_numbers.specs.Place.{written}
use Rattle.refusal.specs.Outcome.{Outcome, outcome}

-- how many of the first k bytes stand up to their last slash, that slash among them
unfoldable pub folder_length : ℕ → List ℕ → ℕ
folder_length zero s = zero
folder_length (suc k) s = cond (eqb (get_or s k 0) 47) (suc k) (folder_length k s)

-- a path's folder, with the slash behind it: nothing where the path has no slash
unfoldable pub folder_of : List ℕ → List ℕ
folder_of s = take (folder_length (length s) s) s

-- a path's last name
unfoldable pub base_of : List ℕ → List ℕ
base_of s = drop (folder_length (length s) s) s

-- what stands before a link's text in the path that it leads to
unfoldable pub start_of : List ℕ → List ℕ → List ℕ
start_of link text = cond (eqb (get_or text 0 0) 47) [] (folder_of link)

-- two texts, one behind the other, at the front of a buffer, where it has room for both
unfoldable pub joined : List ℕ → List ℕ → List ℕ → Outcome (Option ℕ) (List ℕ)
joined s xs ys = cond (leb (length xs + length ys) (length s)) (outcome (Some (length xs + length ys)) (written s 0 (xs ++ ys))) (outcome None s)

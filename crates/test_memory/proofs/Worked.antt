-- The files of a store in memory, computed on a small example.
use Rattle.std.proofs.Common.{◌≡◌, ℕ, List, [], ◌∷◌, Some, None, refl}
use Rattle.test_memory.specs.Memory.{file_in, any_file_in, IsPlaceOf, name_at, bytes_at, given_of}

-- a has 1 2 3, and b has 4; a second file named a counts for nothing
abbrev files : List (List ℕ × List ℕ)
files = (97 ∷ [], 1 ∷ 2 ∷ 3 ∷ []) ∷ (98 ∷ [], 4 ∷ []) ∷ (97 ∷ [], 5 ∷ []) ∷ []

found : file_in files (98 ∷ []) ≡ Some (4 ∷ [])
found = refl

first_found : file_in files (97 ∷ []) ≡ Some (1 ∷ 2 ∷ 3 ∷ [])
first_found = refl

not_there : file_in files (99 ∷ []) ≡ None
not_there = refl

empty_there : any_file_in files (99 ∷ []) ≡ Some []
empty_there = refl

first_place : IsPlaceOf files (97 ∷ []) 0
first_place = refl

second_place : IsPlaceOf files (98 ∷ []) 1
second_place = refl

name_there : name_at files 1 ≡ 98 ∷ []
name_there = refl

bytes_there : bytes_at files 1 ≡ 4 ∷ []
bytes_there = refl

-- a read gives the least of the buffer's size, the most of a call and what is left
small_buffer : given_of 1 2 0 (1 ∷ 2 ∷ 3 ∷ []) ≡ 1
small_buffer = refl

small_call : given_of 9 2 0 (1 ∷ 2 ∷ 3 ∷ []) ≡ 2
small_call = refl

little_left : given_of 9 2 2 (1 ∷ 2 ∷ 3 ∷ []) ≡ 1
little_left = refl

behind_the_end : given_of 9 2 5 (1 ∷ 2 ∷ 3 ∷ []) ≡ 0
behind_the_end = refl

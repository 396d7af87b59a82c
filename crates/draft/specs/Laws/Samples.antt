-- A text and its table, computed from the definitions: two jobs, two locks, a comment and a carriage return.
use Rattle.std.specs.Prelude.{ℕ, ◌≡◌, refl, List, [], ◌∷◌, ◌++◌}
use Rattle.draft.specs.Words.{words_from}
use Rattle.draft.specs.Numbers.{all_digits, value_from, number_from, number_of}
use Rattle.draft.specs.Bytes.{record_bytes, bytes_of}
use Rattle.draft.specs.Locks.{number_in, names_with, held_from}
use Rattle.draft.specs.Forms.{frame_says, priority_says, release_says, job_says, held_says, holds_says, segment_says, line_says}
use Rattle.draft.specs.Text.{with_frame, with_job, with_segment, with_line, read_line, read_lines, ended, draw_of, says_of}
use Rattle.draft.specs.Packing.{line_at, pack_of}
use Rattle.table.specs.Records.{sized, marked, record_at, ahead, goes_on, read_from, reading_of}
use Rattle.table.specs.Table.{jobs_from}
use Rattle.table.specs.Refusal.{failing, refusal_in, refusal}

-- # two locks
comment : List ℕ
comment = 35 ∷ 32 ∷ 116 ∷ 119 ∷ 111 ∷ 32 ∷ 108 ∷ 111 ∷ 99 ∷ 107 ∷ 115 ∷ 10 ∷ []

-- frame 20
frame : List ℕ
frame = 102 ∷ 114 ∷ 97 ∷ 109 ∷ 101 ∷ 32 ∷ 50 ∷ 48 ∷ 10 ∷ []

-- job a release 0 priority 3
first_job : List ℕ
first_job =
    106 ∷ 111 ∷ 98 ∷ 32 ∷ 97 ∷ 32 ∷ 114 ∷ 101 ∷ 108 ∷ 101 ∷ 97 ∷ 115 ∷ 101 ∷ 32 ∷ 48 ∷ 32 ∷ 112 ∷ 114 ∷ 105 ∷ 111 ∷ 114 ∷ 105 ∷ 116 ∷ 121 ∷ 32 ∷ 51 ∷ 10 ∷ []

-- segment 1 2 holds B A
first_segment : List ℕ
first_segment = 115 ∷ 101 ∷ 103 ∷ 109 ∷ 101 ∷ 110 ∷ 116 ∷ 32 ∷ 49 ∷ 32 ∷ 50 ∷ 32 ∷ 104 ∷ 111 ∷ 108 ∷ 100 ∷ 115 ∷ 32 ∷ 66 ∷ 32 ∷ 65 ∷ 10 ∷ []

-- job b release 4 priority 5, and a carriage return
second_job : List ℕ
second_job =
    106 ∷ 111 ∷ 98 ∷ 32 ∷ 98 ∷ 32 ∷ 114 ∷ 101 ∷ 108 ∷ 101 ∷ 97 ∷ 115 ∷ 101 ∷ 32 ∷ 52 ∷ 32 ∷ 112 ∷ 114 ∷ 105 ∷ 111 ∷ 114 ∷ 105 ∷ 116 ∷ 121 ∷ 32 ∷ 53 ∷ 13 ∷ 10 ∷ []

-- segment 2 2 holds A # one
second_segment : List ℕ
second_segment =
    115 ∷ 101 ∷ 103 ∷ 109 ∷ 101 ∷ 110 ∷ 116 ∷ 32 ∷ 50 ∷ 32 ∷ 50 ∷ 32 ∷ 104 ∷ 111 ∷ 108 ∷ 100 ∷ 115 ∷ 32 ∷ 65 ∷ 32 ∷ 35 ∷ 32 ∷ 111 ∷ 110 ∷ 101 ∷ 10 ∷ []

table : List ℕ
table =
    0x46 ∷ 0x52 ∷ 20 ∷ 0 ∷ 0 ∷ 0
    ∷ 0x4a ∷ 0x42 ∷ 0 ∷ 0 ∷ 0 ∷ 0 ∷ 3 ∷ 1 ∷ 0x53 ∷ 0x47 ∷ 1 ∷ 0 ∷ 0 ∷ 0 ∷ 2 ∷ 0 ∷ 0 ∷ 0 ∷ 3 ∷ 0
    ∷ 0x4a ∷ 0x42 ∷ 4 ∷ 0 ∷ 0 ∷ 0 ∷ 5 ∷ 1 ∷ 0x53 ∷ 0x47 ∷ 2 ∷ 0 ∷ 0 ∷ 0 ∷ 2 ∷ 0 ∷ 0 ∷ 0 ∷ 2 ∷ 0 ∷ []

packed_so : pack_of (comment ++ frame ++ first_job ++ first_segment ++ second_job ++ second_segment) ≡ record { cause = 0; line = 0; bytes = table }
unfolding comment frame first_job first_segment second_job second_segment table pack_of says_of draw_of read_lines read_line line_says words_from frame_says job_says
    release_says priority_says segment_says holds_says held_says names_with number_in held_from number_of number_from all_digits value_from with_line with_frame with_job with_segment ended
    bytes_of record_bytes refusal refusal_in reading_of read_from goes_on ahead record_at marked sized failing jobs_from
packed_so = refl

-- the jobs in the other order: the second is released earlier than the first, on line 5
refused_so : pack_of (comment ++ frame ++ second_job ++ second_segment ++ first_job ++ first_segment) ≡ record { cause = 23; line = 5; bytes = [] }
unfolding comment frame first_job first_segment second_job second_segment pack_of says_of draw_of read_lines read_line line_says words_from frame_says job_says
    release_says priority_says segment_says holds_says held_says names_with number_in held_from number_of number_from all_digits value_from with_line with_frame with_job with_segment ended
    bytes_of record_bytes line_at refusal refusal_in reading_of read_from goes_on ahead record_at marked sized failing jobs_from
refused_so = refl

-- a segment before any job, on line 3
early_so : pack_of (comment ++ frame ++ second_segment) ≡ record { cause = 6; line = 3; bytes = [] }
unfolding comment frame second_segment pack_of says_of draw_of read_lines read_line line_says words_from frame_says segment_says holds_says held_says names_with number_in
    held_from number_of number_from all_digits value_from with_line with_frame with_segment ended bytes_of record_bytes
early_so = refl

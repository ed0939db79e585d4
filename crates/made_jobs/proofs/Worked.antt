-- What is made, by the values of another program: the first word and signs of a seed, and the texts of two seeds.
use Rattle.std.proofs.Common.{◌≡◌, ◌++◌, [], refl}
use Rattle.std.specs.Prelude.{codes}
use Rattle.made_jobs.specs.Made.{blanks, draw, exchanges, full_grid, lines_of, made, made_text, puzzle, relabelled, seeded, shuffled}

first_word : (draw (seeded 1)).0 ≡ 0x9b6bdda9
unfolding draw seeded
first_word = refl

first_signs : (shuffled (seeded 1)).0 ≡ codes "892763415"
unfolding draw seeded shuffled exchanges
first_signs = refl

nothing : made_text 0 7 ≡ []
unfolding made
nothing = refl

two_puzzles : made_text 2 2
    ≡ codes "9756321..6.8419..2.1..58....9.3645.7.862...14347..52.6..4973.25.2.5416.97..826.3.\n"
    ++ codes "52.1..6...9.3...8...7.84.19.56913842..1.529..93.64875161.5.94.8.79.3.1.5..54.1.9.\n"
unfolding blanks draw exchanges full_grid lines_of made puzzle relabelled seeded shuffled
two_puzzles = refl

with_a_batch : made_text 8 1
    ≡ codes "6273..5893498...7..5.27963..6.4387927931..4.8..2..7.6..386..9...14785326.7.91..4.\n"
    ++ codes "149..5..76378...95.25497.63..23689.4976.14.2....2.95.6.6......9753.82.41491..6..2\n"
    ++ codes "354..97862.6..3..9.79.4.3.1.371..46..6.9.5.7.1.57.493.728.5169.69.4..253.43.9.817\n"
    ++ codes "4...25716..61.4385...38649....291....6.5.32712.37....9791..2.5...2.17.3438.65...7\n"
    ++ codes ".529..6419.14.852.4635..89.3.67.42.52.9385..47.5..23896.485.1.2...2..9.8.2.1..476\n"
    ++ codes "2..738496.3694.1..94..5...3.2437956.56..2134939146...7.7921.6...835947..15268.934\n"
    ++ codes "6.2.3945...15468.9.4.821.739.43.5218...96834535.....674756.319..9..54...8..19....\n"
    ++ codes "5..83..168.6.....2172.965.32.73.1..496..543713..7.9.587..543.296..91.8.54..62813.\n"
    ++ codes "batch 5..83..168.6.....2172.965.32.73.1..496..543713..7.9.587..543.296..91.8.54..62813.\ncount 49 53\nsum\nmax\n"
unfolding blanks draw exchanges full_grid lines_of made puzzle relabelled seeded shuffled
with_a_batch = refl

-- The words that the proofs of this crate take from elsewhere, in one place. Declares nothing.
pub use Rattle.std.proofs.Common.{◌≡◌, ℕ, ◌+◌, ◌^◌, ◌<◌, ◌≤◌, List, [], ◌∷◌, ◌++◌, length, take, get_or, false, Some}
pub use Rattle.std.proofs.Common.{refl, sym, ap, ◌∙◌, arith, append-nil, lt-ltb, ne_eqb, suc, Bool, true, Option, None}
pub use Rattle.std.proofs.Common.{Ordering, Less, Equal, Greater, nat_cmp, is_eq, codes, if◌then◌else◌, ◌==◌}
pub use Rattle.std.proofs.Common.{option_and_then, ◌≢◌, cond, drop, length-drop, ◌-◌, nat_eq, Vec, Global, option_map}
pub use Rattle.std.proofs.Common.{inl, inr, append_assoc, length-append, Result, Ok, Err, Bor, true≢false, ◌⊎◌, IsUtf8}
pub use Rattle.std.proofs.Common.{zero, rules, ◌*◌, IfSome}
pub use Rattle.std.proofs.Math.Nat.{pow-le-pow_right}
pub use Rattle.std.proofs.lemmas.Bool.{eqb-true, le-leb, false≢true}
pub use Rattle.std.proofs.lemmas.Bool.Decides.{nat_tests, Decides-eqb}
pub use Rattle.std.proofs.lemmas.Int.Digits.{digits_value-lt, digits_value_more, digits_more}
pub use Rattle.std.proofs.lemmas.List.{length-take, take_all, drop_more, take-append-drop, drop_all, drop-drop}
pub use Rattle.std.proofs.lemmas.List.{get_or-take}
pub use Rattle.std.proofs.lemmas.Map.Text.{is_eq-slice_cmp}
pub use Rattle.std.proofs.lemmas.Slice.Eq.{bytes_eq-Decides, starts_is}
pub use Rattle.std.proofs.lemmas.Str.Parse.{digit_from_value}
pub use Rattle.std.specs.Char.{digit_value, is_ascii_digit}
pub use Rattle.std.specs.Cmp.Lexicographic.{slice_cmp}
pub use Rattle.std.specs.List.{prefix_len, starts_with}
pub use Rattle.std.specs.Ordering.{match_ordering}
pub use Rattle.std.specs.Prelude.{⊤}
pub use Rattle.std.specs.Str.{is_utf8}
pub use Rattle.std.specs.Str.Parse.{AllDigits, digits_value}
pub use Rattle.fast_float.proofs.Writing.{scan-text_of}
pub use Rattle.fast_float.specs.Text.{Parts, digits_of, IsWellFormed, scan}
pub use Rattle.json.proofs.Grammar.{value_is, items_end, items_more, members_end, members_no_key, members_more}
pub use Rattle.json.proofs.Grammar.{value-begin_array, value-begin_object, read_key-shorter}
pub use Rattle.json.proofs.Printed.Numbers.{lex-number}
pub use Rattle.json.specs.Json.{after_end_array, parse_map, if_last, Parse, read_key, items_step}
unfoldable pub use Rattle.json.specs.Json.{value, items, members}
pub use Rattle.json.specs.Lex.{token, class, operator, space, operator_lexeme, lex_byte, between, Lexeme, comma, colon}
pub use Rattle.json.specs.Lex.{string_token, in_string, Place, fresh, after_value, after_comma, after_key, may_begin}
pub use Rattle.json.specs.Lex.{begins_colon, place_token, tokens}
unfoldable pub use Rattle.json.specs.Lex.{lex, punctuate}
pub use Rattle.json.specs.Print.{IsNumber}
pub use Rattle.json.specs.Reads.{token_of}
pub use Rattle.json.specs.Text.{plain}
unfoldable pub use Rattle.json.specs.Text.{content}
pub use Rattle.json.specs.Token.{Token, begin_object, begin_array, end_object, end_array, key, string}
pub use Rattle.json.specs.Word.{is_space, ends_word, after_digits}
unfoldable pub use Rattle.json.specs.Word.{after_number}
pub use Rattle.serde_json.proofs.Views.{get_member-put, get_member-put_other}
pub use Rattle.serde_json.specs.Data.{unsigned, Data, object, Members, no_members, member, put, array, Items, no_items}
pub use Rattle.serde_json.specs.Data.{item, null, boolean, number, Num}
pub use Rattle.serde_json.specs.Find.{get_member, as_array, as_number, as_object, as_u64}
pub use Rattle.serde_json.specs.Read.{number_from, max_depth, of_json, converted, read, of_items, of_members}
unfoldable pub use Rattle.serde_json.specs.Read.{number_of}
pub use Rattle.serde_json.specs.View.{number_view}
pub use Rattle.chip_graph.specs.declared.edge.Edge.{Edge}
pub use Rattle.chip_file.specs.GraphFile.{number_of_value, edges_of_rows, members_count, file_of_parts, file_of_value}
pub use Rattle.chip_file.specs.GraphFile.{GraphFile, edge_of_row, numbers_of, edge_of_numbers, json_of}
pub use Rattle.chip_file.specs.JsonParts.{add_member, known_members, value_count, known_count, IsOther, IsCrowded, Stands}
pub use Rattle.chip_file.specs.JsonParts.{Takes, KeepsFile, kept_of}
pub use Rattle.chip_file.specs.JsonPlain.{IsOperator, lexemes_at, IsNumberAt, IsRowAt, AreRowsAt, IsAfterName}
pub use Rattle.chip_file.specs.JsonPlain.{BeginsEdges}
pub use Rattle.chip_file.specs.JsonPlain.{GoesOnAs, HasEdgesBefore, HasEdgesFirst, rows_depth, IsAfterByte}
pub use Rattle.chip_file.specs.JsonRows.{and_number, and_items, edge_in, KeepsEdges, KeepsAny, MayRead, MayReadItems, AreEdgeRows}
pub use Rattle.chip_file.specs.JsonRows.{AreRowsUnder}
pub use Rattle.chip_file.specs.JsonValues.{next_value, ItemsAre, MembersAre, ReadsValue, ReadsItems, ReadsMembers}
pub use Rattle.chip_file.specs.declared.fault.FileFault.{FileFault}
pub use Rattle.chip_file.specs.declared.fault.FileFault.TheVariants.{NotJson, NoMemory}

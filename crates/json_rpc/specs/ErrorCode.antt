-- The numbers of errors: JSON-RPC 2.0, and for the last two the Language Server Protocol.
use Rattle.std.specs.Prelude.{ℤ, negsuc}
use Rattle.json_rpc.specs.declared.error_code.ErrorCode.{ErrorCode}
use Rattle.json_rpc.specs.declared.error_code.ErrorCode.TheVariants.{Parse, InvalidRequest, MethodNotFound, InvalidParams, Internal, NotInitialized, RequestFailed}

-- the number of an error; negsuc n is -(n + 1)
abbrev pub number_of : ErrorCode → ℤ
number_of Parse = negsuc 32699
number_of InvalidRequest = negsuc 32599
number_of MethodNotFound = negsuc 32600
number_of InvalidParams = negsuc 32601
number_of Internal = negsuc 32602
number_of NotInitialized = negsuc 32001
number_of RequestFailed = negsuc 32802

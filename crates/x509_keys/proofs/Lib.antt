mod Encoded
